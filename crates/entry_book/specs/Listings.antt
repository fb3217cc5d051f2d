-- What a page lists, in direct words. Theorems of this crate say that the definitions of a page do exactly this, and that these
-- words determine what it lists.
use Rattle.std.specs.Prelude.{◌≡◌, ◌≤◌, true, List, [], ◌∷◌, ◌++◌, length, Option, Some, None, IfSome}
use Rattle.spiffe_name.specs.Selector.{SelectorPair}
use Rattle.entry_book.specs.declared.page.Filter.{Filter}
use Rattle.entry_book.specs.declared.page.MatchMode.{MatchMode}
use Rattle.entry_book.specs.declared.page.MatchMode.TheVariants as mode
use Rattle.entry_book.specs.declared.page.PageQuery.{PageQuery}
use Rattle.entry_book.specs.declared.reply.OpReply.TheVariants as replied
use Rattle.entry_book.specs.Rows.{Bytes, Entry, entry_key}
use Rattle.entry_book.specs.Order.{Within, is_before}
use Rattle.entry_book.specs.Book.{Book}
use Rattle.entry_book.specs.Ops.{OpEffect}
use Rattle.entry_book.specs.Effects.{IsListOf}
use Rattle.entry_book.specs.Pages.{last_id, listed, next_of}

-- ---- which entries pass

-- how an entry's own selectors relate to the given ones; sets are lists in one order, so equal sets are equal lists
abbrev pub Matches : MatchMode → List SelectorPair → List SelectorPair → Type 0
Matches mode.Exact given own = own ≡ given
Matches mode.Any given own = (s : SelectorPair) × Within own s × Within given s
Matches mode.Superset given own = (s : SelectorPair) → Within given s → Within own s
Matches mode.Subset given own = (s : SelectorPair) → Within own s → Within given s

-- The entry satisfies each part of the filter that is given.
pub record Passes (f : Filter) (e : Entry) : Type 0 where
  pub parent : IfSome f.parent (λ given. e.parent ≡ given)
  pub identity : IfSome f.identity (λ given. e.identity ≡ given)
  pub domain : IfSome f.domain (Within e.domains)
  pub selectors : IfSome f.selectors (λ m. Matches m.mode m.selectors e.selectors)

-- ---- one page

-- An entry that a page of unlimited size would list: it passes the filter and comes after the page's start.
pub record IsToList (q : PageQuery) (b : Book) (e : Entry) : Type 0 where
  pub of_book : Within b.entries e
  pub passes : Passes q.filter e
  pub later : IfSome q.from (λ k. is_before k e.id ≡ true)

-- No entry is left, and there is no next page; or the page is full, and the next one continues after the last entry's id.
abbrev pub IsPageEnd : PageQuery → List Entry → List Entry → Option Bytes → Type 0
IsPageEnd q es [] next = (length es ≤ q.size) × (next ≡ None)
IsPageEnd q es (e ∷ left) next = (length es ≡ q.size) × (next ≡ last_id es)

-- A page has these entries, and says where the next one begins. They and those that are left are all that it could list, in
-- the order of ids.
pub record IsPage (q : PageQuery) (b : Book) (es : List Entry) (next : Option Bytes) : Type 0 where
  pub left : List Entry
  pub all : IsListOf entry_key (IsToList q b) (es ++ left)
  pub extends : IsPageEnd q es left next

-- The operation replies with a page, and writes nothing.
pub record ListsPage (q : PageQuery) (b : Book) (d : OpEffect) : Type 0 where
  pub shown : List Entry
  pub next : Option Bytes
  pub is_page : IsPage q b shown next
  pub reply : d.reply ≡ replied.Page shown next
  pub writes : d.writes ≡ []

-- ---- page after page, each beginning after the last entry of the one before

-- the page that begins after this id
abbrev pub page_after : PageQuery → Option Bytes → PageQuery
page_after q from = record q { from = from }

-- Reading page after page, the first of which begins after this id, lists these entries and ends.
pub data PageAfterPage (q : PageQuery) (b : Book) : Option Bytes → List Entry → Type 0 where
  last_page : (from : Option Bytes) → next_of (page_after q from) b ≡ None → PageAfterPage q b from (listed (page_after q from) b)
  one_more : (from : Option Bytes) (k : Bytes) (later : List Entry) → next_of (page_after q from) b ≡ Some k → PageAfterPage q b (Some k) later → PageAfterPage q b from (listed (page_after q from) b ++ later)
