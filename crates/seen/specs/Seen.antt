-- The areas and the desk, seen as the machine: a row's versions are its chain, with the bodies where they lie. Assumes nothing.
use Rattle.std.specs.Prelude.{ℕ, zero, suc, ◌+◌, ◌*◌, cond, List, [], ◌∷◌, eqb, ltb, get_or, take, drop}
use Rattle.columns.specs.Limits.{members}
use Rattle.places.specs.Open.{open_count}
use Rattle.desk.specs.declared.Desk.{Desk}
use Rattle.kind.specs.Kind.{rows}
use Rattle.status.specs.declared.Status.{Status}
use Rattle.status.specs.declared.Status.TheVariants.{InWork, Committed, Withdrawn, Reserved}
use Rattle.sight.specs.Sight.{standing}
use Rattle.chain.specs.Chain.{Version, chain_of}
use Rattle.chain.specs.Walk.{body_of}
use Rattle.machine.specs.Machine.{Status as Standing, InWork as Working, Committed as Done, Withdrawn as Gone, Version as Held, Session, Machine}

-- a reserved status never stands in a history; it is not committed
abbrev pub as_standing : Status → Standing
as_standing InWork = Working
as_standing Committed = Done
as_standing Withdrawn = Gone
as_standing Reserved = Working

-- the used places of a list
abbrev pub used : List ℕ → List ℕ
used [] = []
used (x ∷ l) = cond (eqb x 0) (used l) (x ∷ used l)

abbrev pub session_at : Desk → ℕ → Session
session_at d k =
    record {
      number = get_or d.numbers k 0;
      statement = get_or d.statements k 0;
      list = used (take members (drop (k * members) d.lists));
    }

-- n sessions from place k on
abbrev pub sessions_from : Desk → ℕ → ℕ → List Session
sessions_from d k zero = []
sessions_from d k (suc n) = session_at d k ∷ sessions_from d (k + 1) n

-- the open sessions: they stand at the first places
abbrev pub open_sessions : Desk → List Session
open_sessions d = sessions_from d 0 (open_count d.numbers)

-- what each number's status says
abbrev pub standings : List ℕ → ℕ → Standing
standings s n = as_standing (standing n s)

abbrev pub held_of : List ℕ → List ℕ → Version → Held
held_of d u x =
    record {
      create = x.slot.create;
      cmd = x.slot.cmd;
      expire = x.slot.expire;
      expire_cmd = x.slot.expire_cmd;
      body = body_of x.place d u;
    }

abbrev pub all_held : List ℕ → List ℕ → List Version → List Held
all_held d u [] = []
all_held d u (x ∷ xs) = held_of d u x ∷ all_held d u xs

-- rows behind the last are empty
abbrev pub row_of : List ℕ → List ℕ → ℕ → List Held
row_of d u r = cond (ltb r (rows d)) (all_held d u (chain_of d u r).versions) []

abbrev pub seen_as : List ℕ → List ℕ → List ℕ → Desk → Machine
seen_as d u s k =
    record {
      next = k.next;
      status = standings s;
      desk = open_sessions k;
      rows = row_of d u;
    }
