use Rattle.version_book.proofs.laws.room.Goals as goal
use Rattle.version_book.proofs.Rooms.{room_in_run}

pub returns : goal.returns
returns c = room_in_run
