-- `playing::play` meets its contract: by the name, one call. Assumes nothing.
use mathlib.Core.Path.{refl}
use Rattle.playing.proofs.Playings.{plays, play_by}
use Rattle.playing.proofs.play.Goals as goal

pub returns-in-Format : goal.returns-in-Format
returns-in-Format c = play_by _ _ _ c.args.command _ _ _ _ _ c.in-Format.is c.format.ensures

pub returns-in-Open : goal.returns-in-Open
returns-in-Open c = play_by _ _ _ c.args.command _ _ _ _ _ c.in-Open.is c.open.ensures

pub returns-in-Seal : goal.returns-in-Seal
returns-in-Seal c = play_by _ _ _ c.args.command _ _ _ _ _ c.in-Seal.is c.seal.ensures

pub returns-in-Begin : goal.returns-in-Begin
returns-in-Begin c = play_by _ _ _ c.args.command _ _ _ _ _ c.in-Begin.is c.begin.ensures

pub returns-in-Next : goal.returns-in-Next
returns-in-Next c = play_by _ _ _ c.args.command _ _ _ _ _ c.in-Next.is c.next.ensures

pub returns-in-Insert : goal.returns-in-Insert
returns-in-Insert c = play_by _ _ _ c.args.command _ _ _ _ _ c.in-Insert.is c.insert.ensures

pub returns-in-Update : goal.returns-in-Update
returns-in-Update c = play_by _ _ _ c.args.command _ _ _ _ _ c.in-Update.is c.update.ensures

pub returns-in-Delete : goal.returns-in-Delete
returns-in-Delete c = play_by _ _ _ c.args.command _ _ _ _ _ c.in-Delete.is c.delete.ensures

pub returns-in-Read : goal.returns-in-Read
returns-in-Read c = play_by _ _ _ c.args.command _ _ _ _ _ c.in-Read.is c.read.ensures

pub returns-in-Commit : goal.returns-in-Commit
returns-in-Commit c = play_by _ _ _ c.args.command _ _ _ _ _ c.in-Commit.is c.commit.ensures

pub returns-in-Withdraw : goal.returns-in-Withdraw
returns-in-Withdraw c = play_by _ _ _ c.args.command _ _ _ _ _ c.in-Withdraw.is c.withdraw.ensures

pub returns-in-Sweep : goal.returns-in-Sweep
returns-in-Sweep c = play_by _ _ _ c.args.command _ _ _ _ _ c.in-Sweep.is c.sweep.ensures

pub returns-in-IllFormed : goal.returns-in-IllFormed
returns-in-IllFormed c =
    let done = c.ill_formed.ensures in
    play_by _ _ _ c.args.command _ _ _ _ _ c.in-IllFormed.is (plays _ _ _ _ _ _ _ done.0 refl done.1 refl done.2)
