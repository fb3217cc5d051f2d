use Rattle.commit_head.proofs.Begun.{journal_kept, journal_unchanged}
use Rattle.commit_head.proofs.FewReads.{journal_reads_few}
use Rattle.commit_head.proofs.Journals.{empty_is_first_version, empty_place, items_follow, joins_on_books, journal_begins, journal_extends, journal_is_lawful, journal_last, journal_starts, leads_in_parts, leads_more, leads_to_one, low}
use Rattle.commit_head.proofs.OnBooks.{batches_join, count_of_batches, led_to}
use Rattle.commit_head.proofs.laws.journals.Goals as goal

pub returns : goal.returns
returns c = record {
  follow = items_follow;
  parts = leads_in_parts;
  one = leads_to_one;
  begins = journal_begins;
  remains = journal_kept;
  extends = journal_extends;
  on_books = joins_on_books;
  is_unchanged = journal_unchanged;
  last = journal_last;
  lawful = journal_is_lawful;
  few = journal_reads_few;
  further = leads_more;
  led = led_to;
  count = count_of_batches;
  joined = batches_join;
  bounded = low;
  empty = empty_is_first_version;
  place = empty_place;
  starts = journal_starts;
}
