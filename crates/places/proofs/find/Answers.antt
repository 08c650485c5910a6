-- `places::find` meets its contract: a chain's position among all places is the search by index. Assumes nothing.
use mathlib.Core.Path.{◌≡◌}
use native.Mathlib.Omega.{arith}
use lib.ListN.{length}
use lib.Dec.{eqb}
use borrow.Author.Rules.{rules}
use borrow.Author.Tests.{tests}
use Rattle.std.proofs.lemmas.Iterator.{YieldsList-from_slice}
use Rattle.std.proofs.lemmas.Iterator.Search.{position_from_yields_List}
use Rattle.std.specs.List.{position}
use Rattle.columns.specs.Limits.{sessions}
use Rattle.places.specs.Open.{place_in}
use Rattle.places.proofs.Found.{position_found}
use Rattle.places.proofs.find.Goals as goal

pub returns : goal.returns
unfolding place_in
returns c =
    let long : length c.args.numbers.now ≡ sessions = search rules in
    let found : c.position.result ≡ position (λ number. eqb number c.args.x) c.args.numbers.now =
    position_from_yields_List (λ number. eqb number c.args.x) _ _ c.position.result c.position.ensures.ran (YieldsList-from_slice c.args.numbers.now cc) (λ x b q k. search (rules, tests)) in
    grind (arith, found, position_found (λ number. eqb number c.args.x) _ _ long)
