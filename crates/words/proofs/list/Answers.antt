-- `words::list` meets its contract: the used places of a list are a part of the words. Assumes nothing.
use mathlib.Core.Path.{◌≡◌, ap, ap₂, ◌∙◌}
use lib.Dec.{eqb}
use lib.ListN.{length, take}
use borrow.Author.Rules.{rules}
use borrow.Author.Tests.{tests}
use Rattle.std.specs.Option.{unwrap_or}
use Rattle.std.proofs.lemmas.Iterator.{YieldsList-from_slice}
use Rattle.std.proofs.lemmas.Iterator.Search.{position_from_yields_List}
use Rattle.columns.specs.Limits.{members}
use Rattle.columns.specs.Columns.{used_in, used_of}
use Rattle.places.proofs.Found.{position_or_all}
use Rattle.words.proofs.Laws.{list_at}
use Rattle.words.proofs.list.Goals as goal

pub returns : goal.returns
unfolding used_in used_of
returns c =
    let long : length c.part-list.result.now ≡ members = search rules in
    let list = c.part-list.ensures ∙ list_at _ _ c.requires in
    let used : c.unwrap_or.result ≡ used_in c.part-list.result.now
    = c.unwrap_or.ensures
    ∙ ap (λ o. unwrap_or o members)
    (position_from_yields_List (λ member. eqb member 0) _ _ c.position-used.result c.position-used.ensures.ran (YieldsList-from_slice c.part-list.result.now cc) (λ x b q k. search (rules, tests)))
    ∙ position_or_all (λ member. eqb member 0) _ _ long in
    ap₂ take (used ∙ ap used_in list) list
