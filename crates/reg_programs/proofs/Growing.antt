-- What the seat of a session has seen only grows.
use Rattle.std.proofs.Common.{◌≡◌, ◌+◌, ℕ, List, [], ◌∷◌, refl, subst, sym, ◌∙◌, arith}
use Rattle.entry_book.specs.Book.{Book}
use Rattle.entry_book.specs.Rows.{Bytes}
use Rattle.line_reading.specs.declared.request.Request.{Request}
use Rattle.shared_registry.specs.Seated.{AfterCall, Seated}
use Rattle.shared_registry.proofs.Prefixes.{prefix_self, prefix_trans}
use Rattle.reg_programs.specs.Sessions.{AnswersCall, AnswersRequest, Grew, Session, SessionsGrow, answered, asked, no_reply, not_read, session_skips, refused, replied, spent, submitted}

pub grew_same : (first : List Book) (domain : Bytes) (s : Seated) → Grew first domain s s
grew_same first domain s = record {
  number = refl;
  calls = omega arith;
  seen = prefix_self s.seen;
  lawful = λ l. l;
  learnt = refl;
}

pub grew_on : (first : List Book) (domain : Bytes) (s t u : Seated) → Grew first domain s t → Grew first domain t u → Grew first domain s u
grew_on first domain s t u a b = record {
  number = b.number ∙ a.number;
  calls = let x = a.calls in let y = b.calls in omega arith;
  seen = prefix_trans s.seen t.seen u.seen a.seen b.seen;
  lawful = λ l. b.lawful (a.lawful l);
  learnt = b.learnt ∙ a.learnt;
}

grew_after_call : (first : List Book) (domain : Bytes) (s t : Seated) → AfterCall first domain s t → Grew first domain s t
grew_after_call first domain s t a = record {
  number = a.number;
  calls = let x = a.calls in omega arith;
  seen = a.seen;
  lawful = λ l. a.lawful;
  learnt = a.learnt;
}

pub grew_by_call : (first : List Book) (domain : Bytes) (s t : Seated) (request : Request) (line : ℕ) (text : List ℕ) → AnswersCall first domain s request line t text → Grew first domain s t
grew_by_call first domain s t request line text (replied q e o r) = grew_after_call first domain s t e.after_call
grew_by_call first domain s t request line text (no_reply why q e o r) = grew_after_call first domain s t e.after_call
grew_by_call first domain s t request line text (submitted outcome q a h i r) = grew_after_call first domain s t a

grew_to : (first : List Book) (domain : Bytes) (s : Seated) (made next : Session) → next ≡ made → Grew first domain s made.seat → Grew first domain s next.seat
grew_to first domain s made next e a = subst (λ (x : Session). Grew first domain s x.seat) (sym e) a

grew_by_line : (first : List Book) (domain : Bytes) (now next : Session) (line reply : List ℕ) → AnswersRequest first domain now line next reply → Grew first domain now.seat next.seat
grew_by_line first domain now next line reply (refused fault e n r) = grew_to first domain now.seat (session_skips now) next n (grew_same first domain now.seat)
grew_by_line first domain now next line reply (not_read n r) = grew_to first domain now.seat (session_skips now) next n (grew_same first domain now.seat)
grew_by_line first domain now next line reply (spent request ids e l n r) = grew_to first domain now.seat (asked now now.seat ids) next n (grew_same first domain now.seat)
grew_by_line first domain now next line reply (answered request ids seat text e a n r) = grew_to first domain now.seat (asked now seat ids) next n (grew_by_call first domain now.seat seat request (now.lines + 1) text a)

pub sessions_grow : SessionsGrow
sessions_grow first domain [] start last text r = grew_to first domain start.seat start last r.0 (grew_same first domain start.seat)
sessions_grow first domain (line ∷ lines) start last text r = grew_on first domain start.seat r.0.seat last.seat (grew_by_line first domain start r.0 line r.1 r.3) (sessions_grow first domain lines r.0 last r.2 r.5)
