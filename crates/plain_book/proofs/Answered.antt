-- The result of the code of an accepted operation.
use Rattle.std.proofs.Common.{◌≡◌, List, Result, Ok, ap, ◌∙◌}
use Rattle.entry_book.specs.declared.reply.OpReply.{OpReply}
use Rattle.entry_book.specs.declared.reply.OpRefusal.{OpRefusal}
use Rattle.entry_book.specs.Book.{Book}
use Rattle.entry_book.specs.Writes.{RowWrite, after}
use Rattle.entry_book.specs.Ops.{done}
use Rattle.plain_book.specs.Performed.{performed}

abbrev pub handed_on : OpReply → Book → Result (OpReply × Book) OpRefusal
handed_on r b = Ok (r, b)

pub accepted : (r s : OpReply) (ws : List RowWrite) (b c : Book) → r ≡ s → c ≡ after ws b → handed_on r c ≡ performed (done s ws) b
accepted r s ws b c p q = ap (handed_on r) q ∙ ap (λ t. handed_on t (after ws b)) p
