-- What a page lists: the book's entries that pass its filter and come after the id at which it starts, in the order of ids,
-- as many as it has room for. `next` is the last id that it lists, if more come.
use Rattle.std.specs.Prelude.{Bool, true, ◌&&◌, List, [], ◌∷◌, length, take, filter, nat_lt, Option, Some, None, bytes_eq, if◌then◌else◌}
use Rattle.spiffe_name.specs.Selector.{SelectorPair}
use Rattle.spiffe_name.specs.SelectorSet.{is_within, meets, set_eq}
use Rattle.entry_book.specs.declared.page.Filter.{Filter}
use Rattle.entry_book.specs.declared.page.MatchMode.{MatchMode}
use Rattle.entry_book.specs.declared.page.MatchMode.TheVariants as mode
use Rattle.entry_book.specs.declared.page.PageQuery.{PageQuery}
use Rattle.entry_book.specs.declared.page.SelectorMatch.{SelectorMatch}
use Rattle.entry_book.specs.Rows.{Bytes, Entry}
use Rattle.entry_book.specs.Order.{is_before}
use Rattle.entry_book.specs.Book.{Book, names}

-- ---- which entries pass a filter

-- how an entry's own selectors relate to the given ones, as sets
abbrev pub matches_by : MatchMode → List SelectorPair → List SelectorPair → Bool
matches_by mode.Exact given own = set_eq own given
matches_by mode.Any given own = meets own given
matches_by mode.Superset given own = is_within given own
matches_by mode.Subset given own = is_within own given

abbrev pub matches : SelectorMatch → Entry → Bool
matches m e = matches_by m.mode m.selectors e.selectors

-- no text is given, or this one
abbrev pub is_given : Option Bytes → Bytes → Bool
is_given None text = true
is_given (Some given) text = bytes_eq text given

abbrev pub passes_domain : Option Bytes → Entry → Bool
passes_domain None e = true
passes_domain (Some domain) e = names domain e

abbrev pub passes_selectors : Option SelectorMatch → Entry → Bool
passes_selectors None e = true
passes_selectors (Some m) e = matches m e

-- an entry passes if it satisfies each part that is given
abbrev pub passes : Filter → Entry → Bool
passes f e = is_given f.parent e.parent && is_given f.identity e.identity && passes_domain f.domain e && passes_selectors f.selectors e

-- the book's entries that pass, in the order of ids
abbrev pub passing : Filter → Book → List Entry
passing f b = filter (passes f) b.entries

-- ---- one page

-- the entry's id is after the given one, or none is given
abbrev pub comes_after : Option Bytes → Entry → Bool
comes_after None e = true
comes_after (Some k) e = is_before k e.id

-- what a page of unlimited size would list
abbrev pub to_list : PageQuery → Book → List Entry
to_list q b = filter (comes_after q.from) (passing q.filter b)

-- what the page lists
abbrev pub listed : PageQuery → Book → List Entry
listed q b = take q.size (to_list q b)

-- the id of the last entry, if there is one
abbrev pub last_id : List Entry → Option Bytes
last_id [] = None
last_id (e ∷ []) = Some e.id
last_id (e ∷ f ∷ es) = last_id (f ∷ es)

-- the id after which the next page begins, if there is one
abbrev pub next_of : PageQuery → Book → Option Bytes
next_of q b = if nat_lt q.size (length (to_list q b)) then last_id (listed q b) else None
