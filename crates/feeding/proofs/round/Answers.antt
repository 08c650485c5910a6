-- `feeding::round` meets its contract: by the reading and its answering, joined. Assumes nothing.
use native.Mathlib.Omega.{arith}
use Rattle.feeding.proofs.Served.{answers_short}
use Rattle.feeding.proofs.Rounds.{round_failed, kept_within, round_read}
use Rattle.feeding.proofs.round.Goals as goal

pub returns-in_default-clause-rounds : goal.returns-in_default-clause-rounds
returns-in_default-clause-rounds g c = round_failed _ _ _ _ _ _ _ (omega (arith, c.requires.0)) c.fill.ensures

pub overflow_sub-end : goal.overflow_sub-end
overflow_sub-end g c =
    kept_within _ _ _ _ _ _ _ _ c.fill.auto.text c.fill.ensures.keeps c.in-Some.ensures.given c.serve-f.ensures

pub returns-clause-rounds : goal.returns-clause-rounds
returns-clause-rounds g c =
    round_read _ _ _ _ _ _ _ _ c.fill.auto.text c.fill.ensures.keeps c.in-Some.ensures.given c.serve-f.ensures _ c.keep_rest.ensures

pub returns-clause-kept_le_longest_line : goal.returns-clause-kept_le_longest_line
returns-clause-kept_le_longest_line g c = answers_short _ _ _ _ _ c.serve-f.ensures c.requires.2
