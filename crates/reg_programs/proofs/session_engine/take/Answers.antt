use Rattle.std.proofs.Common.{◌≡◌, ◌^◌, ◌≤◌, ℕ, false, ap, subst, sym, ◌∙◌, arith}
use Rattle.std.specs.Prelude.{nat_lt}
use Rattle.std.proofs.lemmas.Bool.Decides.{nat_tests}
use Rattle.reg_lines.specs.SeatLines.{seat_refusal_json}
use Rattle.reg_lines.specs.declared.printing.seats.SeatRefusal.TheVariants.{Spent}
use Rattle.shared_registry.specs.Seated.{Seated}
use Rattle.reg_programs.specs.Sessions.{AnswersCall, Grew, Session}
use Rattle.reg_programs.proofs.Calling.{call_answered, line_refused, printed, seat_spent}
use Rattle.reg_programs.proofs.Growing.{grew_by_call, grew_same}
use Rattle.reg_programs.proofs.session_engine.take.Goals as goal

pub returns-in-Err : goal.returns-in-Err
returns-in-Err g c =
    let first = g.J.RegistryId.first in
    let domain = g.J.RegistryId.domain in
    let seat = c.args.seat.now in
    let said = c.in-Err.ensures.spelled in
    let heard = rw c.requires.domain at said.1 in
    record {
      asked = tt;
      grew = λ t text p. subst (λ (s : Seated). Grew first domain seat s) (sym p.0) (grew_same first domain seat);
      line = λ lines t text next p.
          let now : Session = record { seat = seat; ids = c.args.ids.now; lines = lines } in
          let taken = line_refused first domain now c.args.line.now c.read_request.new.ids c.in-Err.refusal (sym c.in-Err.ensures.kept) heard (said.0 ∙ next) in
          printed first domain now c.args.line.now _ text seat t c.read_request.new.ids p.0 p.1 taken;
    }

pub returns-then-has_calls : goal.returns-then-has_calls
returns-then-has_calls g c =
    let first = g.J.RegistryId.first in
    let domain = g.J.RegistryId.domain in
    let seat = c.args.seat.now in
    let request = c.in-Ok.request in
    let e = rw c.requires.domain at c.in-Ok.ensures.spelled in
    record {
      asked = c.call.ensures.asked;
      grew = λ t text p. grew_by_call first domain seat t request c.args.number text (c.call.ensures.answers t text p);
      line = λ lines t text next p.
          let now : Session = record { seat = seat; ids = c.args.ids.now; lines = lines } in
          let answers = subst (λ (n : ℕ). AnswersCall first domain seat request n t text) next (c.call.ensures.answers t text p) in
          call_answered first domain now c.args.line.now text t _ request e answers;
    }

pub returns-else-has_calls : goal.returns-else-has_calls
returns-else-has_calls g c =
    let first = g.J.RegistryId.first in
    let domain = g.J.RegistryId.domain in
    let seat = c.args.seat.now in
    let e = rw c.requires.domain at c.in-Ok.ensures.spelled in
    let none : nat_lt seat.calls (2 ^ 48) ≡ false = sym c.has_calls.ensures ∙ c.if-has_calls.false in
    let spent : 2 ^ 48 ≤ seat.calls = grind (arith, nat_tests) in
    record {
      asked = tt;
      grew = λ t text p. subst (λ (s : Seated). Grew first domain seat s) (sym p.0) (grew_same first domain seat);
      line = λ lines t text next p.
          let now : Session = record { seat = seat; ids = c.args.ids.now; lines = lines } in
          let taken = seat_spent first domain now c.args.line.now _ c.in-Ok.request e spent in
          printed first domain now c.args.line.now _ text seat t c.read_request.new.ids p.0 (p.1 ∙ ap (λ (n : ℕ). seat_refusal_json n Spent) next) taken;
    }
