-- What a machine reports about a call.
use Rattle.std.specs.Prelude.{◌≡◌, ⊤, ℕ, Option, Some, None}
use Rattle.std.specs.Option.{option_copied}
use Rattle.call_answers.specs.declared.call.KnownCall.{KnownCall}
use Rattle.call_machine.specs.Calls.{CallStage, waiting, running, ready, answered, committed, conflict, Call, answer_of}

-- the number of the event that decided it: of its begin if it needed no commit, of its commit if it is committed or refused by a
-- limit
abbrev pub decided_of : CallStage → ℕ → Option ℕ
decided_of waiting turn = None
decided_of (running base made) turn = None
decided_of (ready base) turn = None
decided_of (answered r) turn = Some turn
decided_of (committed r) turn = Some turn
decided_of (conflict n) turn = None

-- `t` is what the machine reports about the call
pub record ReportsCall (c : Call) (t : KnownCall) : Type 0 where
  pub batch : t.batch.now ≡ c.batch
  pub invoked : t.invoked ≡ c.invoked
  pub decided : t.decided ≡ decided_of c.stage c.turn
  pub replied : t.replied ≡ c.replied
  pub answer : option_copied t.answer ≡ answer_of c.stage

-- the same if there is a call; otherwise nothing is reported
abbrev pub Reports : Option Call → Option KnownCall → Type 0
Reports None None = ⊤
Reports (Some c) (Some t) = ReportsCall c t
Reports None (Some t) = ⊥
Reports (Some c) None = ⊥
