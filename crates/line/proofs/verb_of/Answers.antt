-- `line::verb_of` meets its contract: the call that `find` answers is the first that has the name. Assumes nothing.
use mathlib.Core.Path.{◌≡◌, ap, ◌∙◌}
use Rattle.std.proofs.Common.{Option, rules, tests}
use Rattle.std.proofs.lemmas.Iterator.{YieldsList-from_slice}
use Rattle.std.proofs.lemmas.Iterator.Search.{find_from_yields_List}
use Rattle.std.specs.Option.{unwrap_or, option_copied}
use Rattle.std.specs.List.{find}
use Rattle.std.specs.Str.{bytes_eq}
use Rattle.line.specs.declared.Verb.{Verb}
use Rattle.line.specs.declared.Verb.TheVariants.{IllFormed}
use Rattle.line.specs.Line.{word_of, verbs}
use Rattle.line.proofs.Names.{verb_found}
use Rattle.line.proofs.verb_of.Goals as goal

pub returns : goal.returns
returns c =
    let name = c.args.name.now in
    let found : option_copied c.find.result ≡ find (λ v. bytes_eq name (word_of v)) verbs =
    find_from_yields_List (λ v. bytes_eq name (word_of v)) _ _ c.find.result c.find.ensures.ran (YieldsList-from_slice verbs cc) (λ x b q k. search (rules, tests)) in
    c.unwrap_or.ensures ∙ ap (λ (o : Option Verb). unwrap_or o IllFormed) (c.copied.ensures ∙ found) ∙ verb_found name
