use Rattle.version_book.proofs.laws.places.Goals as goal
use Rattle.version_book.proofs.Places.{hits_at_any_place, places_put}

pub returns-clause-put : goal.returns-clause-put
returns-clause-put c = places_put

pub returns-clause-hits : goal.returns-clause-hits
returns-clause-hits c = hits_at_any_place
