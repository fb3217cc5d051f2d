-- The number of replies of a run, and what a read-only batch writes.
use Rattle.std.proofs.Common.{◌≡◌, ℕ, suc, true, List, [], ◌∷◌, ◌++◌, length, Option, Some, None, Ok, Err, IfOk, refl, ap, ◌∙◌}
use Rattle.std.proofs.lemmas.Bool.{and_parts}
use Rattle.entry_book.specs.declared.agent.Agent.{Agent}
use Rattle.entry_book.specs.declared.op.Op.{Op}
use Rattle.entry_book.specs.declared.op.Op.TheVariants.{Create, Update, Delete, Show, ShowAgent, ShowBundle, Children, Page, Authorised, Trust, Prune, SetAgent, DropAgent, SetBundle, DropBundle}
use Rattle.entry_book.specs.declared.reply.OpReply.{OpReply}
use Rattle.entry_book.specs.Rows.{Bytes}
use Rattle.entry_book.specs.Book.{Book, agent_at}
use Rattle.entry_book.specs.Writes.{after}
use Rattle.entry_book.specs.Ops.{OpEffect, OpResult, done, for_agent, op_of}
use Rattle.entry_book.specs.Runs.{RunResult, onto, then_run, run}
use Rattle.entry_book.specs.Batches.{is_question, is_query}

-- ---- there is one reply for each operation

abbrev Replies : ℕ → RunResult → Type 0
Replies n r = IfOk r (λ t. length t.replies ≡ n)

onto_replies : (n : ℕ) (d : OpEffect) (r : RunResult) → Replies n r → Replies (suc n) (onto d r)
onto_replies n d (Ok t) h = ap suc h
onto_replies n d (Err s) h = tt

then_replies : (n : ℕ) (o : OpResult) (f : OpEffect → RunResult) → ((d : OpEffect) → Replies n (f d)) → Replies (suc n) (then_run o f)
then_replies n (Ok d) f h = onto_replies n d (f d) (h d)
then_replies n (Err r) f h = tt

pub run_replies : (domain : Bytes) (ops : List Op) (b : Book) → IfOk (run domain ops b) (λ t. length t.replies ≡ length ops)
run_replies domain [] b = refl
run_replies domain (op ∷ ops) b = then_replies (length ops) (op_of domain op b) (λ d. run domain ops (after d.writes b)) (λ d. run_replies domain ops (after d.writes b))

-- ---- queries

abbrev WritesNothing : OpResult → Type 0
WritesNothing o = IfOk o (λ d. d.writes ≡ [])

asked : (o : Option Agent) (reply : Agent → OpReply) → WritesNothing (for_agent o (λ a. done (reply a) []))
asked None reply = tt
asked (Some a) reply = refl

question_writes : (own_domain : Bytes) (op : Op) (b : Book) → is_question op ≡ true → WritesNothing (op_of own_domain op b)
question_writes own_domain (Create e) b h = cc
question_writes own_domain (Update e expected) b h = cc
question_writes own_domain (Delete k expected) b h = cc
question_writes own_domain (Show k) b h = refl
question_writes own_domain (ShowAgent k) b h = refl
question_writes own_domain (ShowBundle k) b h = refl
question_writes own_domain (Children p) b h = refl
question_writes own_domain (Page q) b h = refl
question_writes own_domain (Authorised k) b h = asked (agent_at k b) _
question_writes own_domain (Trust k) b h = asked (agent_at k b) _
question_writes own_domain (Prune moment) b h = cc
question_writes own_domain (SetAgent a) b h = cc
question_writes own_domain (DropAgent k) b h = cc
question_writes own_domain (SetBundle domain text) b h = cc
question_writes own_domain (DropBundle domain mode) b h = cc

abbrev RunWritesNothing : RunResult → Type 0
RunWritesNothing r = IfOk r (λ t. t.writes ≡ [])

onto_nothing : (d : OpEffect) (r : RunResult) → d.writes ≡ [] → RunWritesNothing r → RunWritesNothing (onto d r)
onto_nothing d (Ok t) h k = ap (λ ws. ws ++ t.writes) h ∙ k
onto_nothing d (Err s) h k = tt

then_nothing : (o : OpResult) (f : OpEffect → RunResult) → WritesNothing o → ((d : OpEffect) → RunWritesNothing (f d)) → RunWritesNothing (then_run o f)
then_nothing (Ok d) f h k = onto_nothing d (f d) h (k d)
then_nothing (Err r) f h k = tt

pub query_writes : (domain : Bytes) (ops : List Op) (b : Book) → is_query ops ≡ true → IfOk (run domain ops b) (λ t. t.writes ≡ [])
query_writes domain [] b h = refl
query_writes domain (op ∷ ops) b h =
    let k = and_parts _ _ h in
    then_nothing (op_of domain op b) (λ d. run domain ops (after d.writes b)) (question_writes domain op b k.0) (λ d. query_writes domain ops (after d.writes b) k.1)
