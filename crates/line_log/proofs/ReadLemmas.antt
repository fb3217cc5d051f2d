-- What a reader of a log has read.
use Rattle.std.proofs.Common.{◌≡◌, inl, inr, Bool, Result, Ok, Err, ℕ, ◌+◌, ◌-◌, ◌^◌, ◌<◌, ◌≤◌, min, List, [], ◌∷◌, ◌++◌, length, take, drop, refl, sym, ◌∙◌, ap, subst, arith, append_assoc, length-append, length-drop}
use Rattle.std.proofs.lemmas.List.{append-nil, get_or-drop, drop-drop, drop-append-le, length-take-le, take_at}
use Rattle.std.proofs.lemmas.Bool.{cases_eq}
use Rattle.std.specs.Prelude.{◌≢◌, slice_index, IfErr, IsErrAnd}
use Rattle.line_log.specs.Lines.{lines_in, text_of, IsLogLine, IsLineFront}
use Rattle.line_log.specs.Hashes.{hashed_line, hashed}
use Rattle.sqlite_disk.specs.declared.Disk.{Ghosts}
use Rattle.sha2.specs.Hashers.{Holds256}
use Rattle.sha2.specs.declared.Sha256.{Sha256}
use Rattle.line_log.specs.Reading.{IsPartOf, HasReadLines, held_by}
use Rattle.line_log.specs.ReadingPrivate.{BeginsAs, IsBreak, IsLookFault, IsNextFault, IsPastFault, IsTornAt, Tells}
use Rattle.line_log.specs.WritingPrivate.{IsDiskFault}
use Rattle.line_log.specs.Damage.{HasWrongEnd, JustifiesError, JustifiesFinish, IsLongLine, IsOutside}
use Rattle.line_log.specs.Tails.{tail_in, unbroken, broken_by, shut_by, IsTornRest, IsTornEnd, MayEnd}
use Rattle.line_log.specs.declared.error.LogError.{LogError}
use Rattle.line_log.specs.declared.error.LogError.TheVariants.{NoMemory, Disk, FileTooLong, TextTooLong, LineTooLong, Damaged, Unread}
use Rattle.line_log.specs.declared.reader.LogReader.{LogReader}
use Rattle.line_log.specs.declared.first_line.FirstLine.TheVariants.{Whole, Part, Broken}
use Rattle.line_log.proofs.LineLemmas.{text_append}
use Rattle.line_log.proofs.CrashLemmas.{split_front}
use Rattle.line_log.proofs.FirstLemmas.{no_bytes, whole_first, begun_none, broken_first}
use Rattle.line_log.proofs.HashLemmas.{hashed_more}
use Rattle.line_log.proofs.TailLemmas.{front_only, tail_past, tail_broken, tail_shut}

some_at : (l : List ℕ) → slice_index l 0 ≡ 123 → 0 < length l
some_at [] e = absurd (omega (arith, e))
some_at (x ∷ l) e = omega arith

module _ (file held : List ℕ) (at : ℕ) (within : at + length held ≤ length file) (each : (i : ℕ) → i < length held → slice_index file (at + i) ≡ slice_index held i) where
  -- the bytes in memory are the next ones of the file
  pub held_first : drop at file ≡ held ++ drop (length held) (drop at file)
  held_first = split_front held (drop at file) (omega (arith, length-drop at file)) (λ i low. get_or-drop at file i 0 ∙ each i low)

  rest_after : (n : ℕ) → n < length held → drop (n + 1) held ++ drop (length held) (drop at file) ≡ drop (at + (n + 1)) file
  rest_after n low = sym (drop-append-le (n + 1) held (drop (length held) (drop at file)) (omega arith)) ∙ ap (drop (n + 1)) (sym held_first) ∙ drop-drop (n + 1) at file

  pub rest_whole : (n : ℕ) → n < length held → IsLogLine (take n held) → slice_index held n ≡ 10 → lines_in (drop at file) ≡ take n held ∷ lines_in (drop (at + (n + 1)) file)
  rest_whole n low line lf =
      ap lines_in held_first ∙ whole_first held (drop (length held) (drop at file)) n low line lf ∙ ap (λ (l : List ℕ). take n held ∷ lines_in l) (rest_after n low)

  pub rest_tail : (n : ℕ) → n < length held → IsLogLine (take n held) → slice_index held n ≡ 10 → tail_in (drop at file) ≡ tail_in (drop (at + (n + 1)) file)
  rest_tail n low line lf = ap tail_in held_first ∙ tail_past held (drop (length held) (drop at file)) n low line lf ∙ ap tail_in (rest_after n low)

  all_held : at + length held ≡ length file → drop at file ≡ held
  all_held all =
      let more = drop (length held) (drop at file) in
      let none : length more ≡ 0 = omega (arith, all, length-drop at file, length-drop (length held) (drop at file)) in
      held_first ∙ ap (λ (l : List ℕ). held ++ l) (no_bytes more none) ∙ append-nil held

  pub rest_part : IsLineFront held → at + length held ≡ length file → lines_in (drop at file) ≡ []
  rest_part front all = ap lines_in (all_held all) ∙ begun_none held front

  pub part_tail : IsLineFront held → at + length held ≡ length file → tail_in (drop at file) ≡ unbroken (length held)
  part_tail front all = ap tail_in (all_held all) ∙ front_only held front

  pub rest_broken : (n : ℕ) → n < length held → IsLineFront (take n held) → IsBreak (take n held) (slice_index held n) → lines_in (drop at file) ≡ []
  rest_broken n low front other = ap lines_in held_first ∙ broken_first held (drop (length held) (drop at file)) n low front other

  -- a byte that breaks the front of a line is torn, or no crash left it
  module _ (n : ℕ) (low : n < length held) (front : IsLineFront (take n held)) (other : IsBreak (take n held) (slice_index held n)) (mixes : Bool) (len : ℕ) (len_is : len ≡ length file) where
    long : length (take n held) ≡ n
    long = length-take-le n held (omega arith)

    more_long : n ≡ 0 → length (drop (n + 1) held ++ drop (length held) (drop at file)) + 1 ≡ len - at
    more_long first =
        omega (arith, first, low, within, len_is, length-append (drop (n + 1) held) (drop (length held) (drop at file)), length-drop (n + 1) held, length-drop (length held) (drop at file), length-drop at file)

    broken : 0 < n → tail_in (drop at file) ≡ broken_by n (slice_index held n) (drop (at + (n + 1)) file)
    broken some =
        ap tail_in held_first ∙ tail_broken held (drop (length held) (drop at file)) n low front other (omega (arith, some, long))
        ∙ ap (λ (k : ℕ). broken_by k (slice_index held n) (drop (n + 1) held ++ drop (length held) (drop at file))) long ∙ ap (broken_by n (slice_index held n)) (rest_after n low)

    shut : n ≡ 0 → tail_in (drop at file) ≡ shut_by (slice_index held n) (drop (n + 1) held ++ drop (length held) (drop at file))
    shut first = ap tail_in held_first ∙ tail_shut held (drop (length held) (drop at file)) n low front other (long ∙ first)

    rest_long : n + 1 + length (drop (at + (n + 1)) file) ≡ len - at
    rest_long = omega (arith, low, within, len_is, length-drop (at + (n + 1)) file)

    -- as many bytes follow the lines as were not read
    pub torn_few : MayEnd mixes (tail_in (drop at file)) → len - at ≤ 2 ^ 24 + 2 ^ 18
    torn_few may = elim (cases_eq n 0) [
      | inl first ↦
          let few : 1 + length (drop (n + 1) held ++ drop (length held) (drop at file)) ≤ 2 ^ 24 + 2 ^ 18 = (subst (MayEnd mixes) (shut first) may).0 in
          omega (arith, few, more_long first)
      | inr later ↦
          let few : n + 1 + length (drop (at + (n + 1)) file) ≤ 2 ^ 24 + 2 ^ 18 = (subst (MayEnd mixes) (broken (omega arith)) may).0 in
          omega (arith, few, rest_long)
    ]

    -- the front is that of a line
    pub torn_front : MayEnd mixes (tail_in (drop at file)) → n < 2 ^ 23
    torn_front may = elim (cases_eq n 0) [
      | inl first ↦ omega (arith, first)
      | inr later ↦ (subst (MayEnd mixes) (broken (omega arith)) may).1.0
    ]

    pub torn_may : n < 2 ^ 23 → len - at ≤ 2 ^ 24 + 2 ^ 18 → IsTornAt mixes n (len - at) (slice_index held n) → (0 < n → IsTornRest (drop (at + (n + 1)) file)) → MayEnd mixes (tail_in (drop at file))
    torn_may front_short few torn rest = elim (cases_eq n 0) [
      | inl first ↦
          let shut_may : IsTornEnd mixes (shut_by (slice_index held n) (drop (n + 1) held ++ drop (length held) (drop at file))) = elim torn [
            | inl filler ↦ inl filler
            | inr gate ↦ elim (gate.1) [
              | inl dis ↦ inr (inl dis)
              | inr one ↦ inr (inr (no_bytes (drop (n + 1) held ++ drop (length held) (drop at file)) (omega (arith, one, more_long first))))
            ]
          ] in
          subst (MayEnd mixes) (sym (shut first)) (omega (arith, few, more_long first), shut_may)
      | inr later ↦
          let filler : slice_index held n ≡ 30 = elim torn [ inl is ↦ is | inr gate ↦ absurd (later gate.0) ] in
          subst (MayEnd mixes) (sym (broken (omega arith))) (omega (arith, few, rest_long), (front_short, filler, rest (omega arith)))
    ]

    pub torn_only : MayEnd mixes (tail_in (drop at file)) → IsTornAt mixes n (len - at) (slice_index held n)
    torn_only may = elim (cases_eq n 0) [
      | inl first ↦
          let shut_may : MayEnd mixes (shut_by (slice_index held n) (drop (n + 1) held ++ drop (length held) (drop at file))) = subst (MayEnd mixes) (shut first) may in
          elim (shut_may.1) [
            | inl filler ↦ inl filler
            | inr gate ↦ elim gate [
              | inl dis ↦ inr (first, inl dis)
              | inr none ↦ inr (first, inr (omega (arith, ap length none, more_long first)))
            ]
          ]
      | inr later ↦ inl ((subst (MayEnd mixes) (broken (omega arith)) may).1.1)
    ]

    pub torn_rest : 0 < n → MayEnd mixes (tail_in (drop at file)) → IsTornRest (drop (at + (n + 1)) file)
    torn_rest some may = (subst (MayEnd mixes) (broken some) may).1.2

-- one more line was read
module _ (file : List ℕ) (lines : List (List ℕ)) (line : List ℕ) (n at : ℕ) (found rest : List ℕ) (is : found ≡ hashed_line (text_of lines) line) (long : length found ≡ n) (at_is : at ≡ length (text_of (hashed lines))) where
  pub more_at : at + (n + 1) ≡ length (text_of (hashed (lines ++ line ∷ [])))
  more_at =
      let both : text_of (hashed (lines ++ line ∷ [])) ≡ text_of (hashed lines) ++ (found ++ 10 ∷ []) =
      ap text_of (hashed_more [] lines line) ∙ text_append (hashed lines) (hashed_line (text_of lines) line ∷ []) ∙ ap (λ (t : List ℕ). text_of (hashed lines) ++ (t ++ 10 ∷ [])) (sym is) in
      omega (arith, at_is, long, ap length both, length-append (text_of (hashed lines)) (found ++ 10 ∷ []), length-append found (10 ∷ []))

  pub more_read : lines_in file ≡ hashed lines ++ found ∷ lines_in rest → lines_in file ≡ hashed (lines ++ line ∷ []) ++ lines_in rest
  more_read read =
      read ∙ sym (append_assoc (hashed lines) (found ∷ []) (lines_in rest)) ∙ ap (λ (l : List (List ℕ)). l ++ lines_in rest) (ap (λ (l : List ℕ). hashed lines ++ l ∷ []) is ∙ sym (hashed_more [] lines line))

-- the part of the file in memory, after a line of it
pub part_past : (file block : List ℕ) (at from n : ℕ) → ((i : ℕ) → i < length (drop from block) → slice_index file (at + i) ≡ slice_index (drop from block) i)
    → (i : ℕ) → i < length (drop (from + (n + 1)) block) → slice_index file (at + (n + 1) + i) ≡ slice_index (drop (from + (n + 1)) block) i
part_past file block at from n each i low =
    let there : at + (n + 1) + i ≡ at + (n + 1 + i) = omega arith in
    let here : from + (n + 1) + i ≡ from + (n + 1 + i) = omega arith in
    ap (slice_index file) there ∙ each (n + 1 + i) (omega (arith, low, length-drop from block, length-drop (from + (n + 1)) block))
    ∙ get_or-drop from block (n + 1 + i) 0 ∙ ap (slice_index block) (sym here) ∙ sym (get_or-drop (from + (n + 1)) block i 0)

module _ {D : Type 0} {d : Ghosts D} (file : List ℕ) (r : LogReader D d) (part : IsPartOf file r) where
  pub part_within : r.at + length (held_by r) ≤ length file
  part_within = omega (arith, r.room, r.inside, part.len, length-drop r.from r.block.items)

  pub none_part : Tells r Part → lines_in (drop r.at file) ≡ []
  none_part tells = rest_part file (held_by r) r.at part_within part.each tells.begins (tells.whole refl ∙ part.len)

  pub none_broken : (n : ℕ) → Tells r (Broken n) → lines_in (drop r.at file) ≡ []
  none_broken n tells = rest_broken file (held_by r) r.at part_within part.each n tells.begins.0 tells.begins.1 tells.begins.2

  -- a whole line follows
  pub whole_next : (n : ℕ) → n < length (held_by r) → BeginsAs (held_by r) (Whole n) → lines_in (drop r.at file) ≡ take n (held_by r) ∷ lines_in (drop (r.at + (n + 1)) file)
  whole_next n low begins = rest_whole file (held_by r) r.at part_within part.each n low begins.1 begins.2

  part_end : Tells r Part → tail_in (drop r.at file) ≡ unbroken (length (held_by r))
  part_end tells = part_tail file (held_by r) r.at part_within part.each tells.begins (tells.whole refl ∙ part.len)

  -- the file ends in the front of a line
  pub end_part : (mixes : Bool) → Tells r Part → r.len - r.at ≤ 1 → MayEnd mixes (tail_in (drop r.at file))
  end_part mixes tells short =
      let few : length (held_by r) ≤ 1 = omega (arith, short, tells.whole refl) in
      subst (MayEnd mixes) (sym (part_end tells)) (omega (arith, few), few)

  pub part_wrong : (mixes : Bool) → Tells r Part → 1 < r.len - r.at → MayEnd mixes (tail_in (drop r.at file)) → ⊥
  part_wrong mixes tells long may =
      let few : length (held_by r) ≤ 1 = (subst (MayEnd mixes) (part_end tells) may).1 in
      omega (arith, long, few, tells.whole refl)

  read_byte : (n : ℕ) → slice_index (held_by r) n ≡ slice_index r.block.items (r.from + n)
  read_byte n = get_or-drop r.from r.block.items n 0

  pub end_torn : (mixes : Bool) (n : ℕ) → Tells r (Broken n) → n < 2 ^ 23 → r.len - r.at ≤ 2 ^ 24 + 2 ^ 18 → IsTornAt mixes n (r.len - r.at) (slice_index r.block.items (r.from + n)) → (0 < n → IsTornRest (drop (r.at + (n + 1)) file)) → MayEnd mixes (tail_in (drop r.at file))
  end_torn mixes n tells front_short few torn rest =
      torn_may file (held_by r) r.at part_within part.each n tells.begins.0 tells.begins.1 tells.begins.2 mixes r.len part.len front_short few
      (subst (IsTornAt mixes n (r.len - r.at)) (sym (read_byte n)) torn) rest

  pub end_wrong : (mixes : Bool) (n : ℕ) → Tells r (Broken n) → (IsTornAt mixes n (r.len - r.at) (slice_index r.block.items (r.from + n)) → ⊥) → MayEnd mixes (tail_in (drop r.at file)) → ⊥
  end_wrong mixes n tells other may =
      other (subst (IsTornAt mixes n (r.len - r.at)) (read_byte n) (torn_only file (held_by r) r.at part_within part.each n tells.begins.0 tells.begins.1 tells.begins.2 mixes r.len part.len may))

  pub long_wrong : (mixes : Bool) (n : ℕ) → Tells r (Broken n) → (n < 2 ^ 23 → r.len - r.at ≤ 2 ^ 24 + 2 ^ 18 → ⊥) → MayEnd mixes (tail_in (drop r.at file)) → ⊥
  long_wrong mixes n tells other may =
      other (torn_front file (held_by r) r.at part_within part.each n tells.begins.0 tells.begins.1 tells.begins.2 mixes r.len part.len may)
      (torn_few file (held_by r) r.at part_within part.each n tells.begins.0 tells.begins.1 tells.begins.2 mixes r.len part.len may)

  pub rest_wrong : (mixes : Bool) (n : ℕ) → Tells r (Broken n) → 0 < n → (IsTornRest (drop (r.at + (n + 1)) file) → ⊥) → MayEnd mixes (tail_in (drop r.at file)) → ⊥
  rest_wrong mixes n tells some other may =
      other (torn_rest file (held_by r) r.at part_within part.each n tells.begins.0 tells.begins.1 tells.begins.2 mixes r.len part.len some may)

  -- the next byte of the file, if it is in memory
  first_byte : 0 < length (held_by r) → slice_index file r.at ≡ slice_index (held_by r) 0
  first_byte some =
      let here : r.at ≡ r.at + 0 = omega arith in
      ap (slice_index file) here ∙ part.each 0 some

  pub gate_within : slice_index (held_by r) 0 ≡ 123 → r.at < length file
  gate_within gate =
      let some = some_at (held_by r) gate in
      omega (arith, some, part_within)

  pub open_gate : slice_index (held_by r) 0 ≡ 123 → slice_index file r.at ≡ 123
  open_gate gate = first_byte (some_at (held_by r) gate) ∙ gate

  pub shut_gate : 0 < length (held_by r) → slice_index (held_by r) 0 ≢ 123 → slice_index file r.at ≢ 123
  shut_gate some other is = other (sym (first_byte some) ∙ is)

  -- the line goes on behind a block of the maximum length
  pub long_line : IsLineFront (held_by r) → length (held_by r) ≡ min 8388608 (r.len - r.at) → length (held_by r) < r.len - r.at → IsLongLine (drop r.at file)
  long_line front size more =
      let is : length (held_by r) ≡ 8388608 = omega (arith, size, more) in
      let first = held_first file (held_by r) r.at part_within part.each in
      let same : take 8388608 (drop r.at file) ≡ held_by r = ap (take 8388608) first ∙ take_at (held_by r) (drop (length (held_by r)) (drop r.at file)) 8388608 is in
      (omega (arith, is, more, part.len, length-drop r.at file), subst IsLineFront (sym same) front)

-- the rest behind a front of a line, in the file as it was and as it is
pub behind : {D : Type 0} {d : Ghosts D} (file : List ℕ) (r : LogReader D d) (n : ℕ) (now : List ℕ) → now ≡ file → IsTornRest (drop (r.at + n + 1) now) → IsTornRest (drop (r.at + (n + 1)) file)
behind file r n now same torn =
    let there : r.at + n + 1 ≡ r.at + (n + 1) = omega arith in
    subst (λ (k : ℕ). IsTornRest (drop k file)) there (subst (λ (f : List ℕ). IsTornRest (drop (r.at + n + 1) f)) same torn)

pub before : {D : Type 0} {d : Ghosts D} (file : List ℕ) (r : LogReader D d) (n : ℕ) (now : List ℕ) → now ≡ file → IsTornRest (drop (r.at + (n + 1)) file) → IsTornRest (drop (r.at + n + 1) now)
before file r n now same torn =
    let there : r.at + (n + 1) ≡ r.at + n + 1 = omega arith in
    subst (λ (f : List ℕ). IsTornRest (drop (r.at + n + 1) f)) (sym same) (subst (λ (k : ℕ). IsTornRest (drop k file)) there torn)

-- a reader that has read the same, with another part in memory
pub looked : {D : Type 0} {d : Ghosts D} (file : List ℕ) (r s : LogReader D d) (lines : List (List ℕ)) → IsPartOf file s → s.at ≡ r.at → s.count ≡ r.count → s.hasher ≡ r.hasher
    → HasReadLines file r lines → HasReadLines file s lines
looked file r s lines part at count hasher read = record {
  part = part;
  count = count ∙ read.count;
  at = at ∙ read.at;
  read = read.read ∙ ap (λ (n : ℕ). hashed lines ++ lines_in (drop n file)) (sym at);
  tail = read.tail ∙ ap (λ (n : ℕ). tail_in (drop n file)) (sym at);
  text = subst (λ (h : Sha256). Holds256 h (text_of lines)) (sym hasher) read.text;
}

-- all lines were read
pub read_all : {D : Type 0} {d : Ghosts D} (file : List ℕ) (r : LogReader D d) (lines : List (List ℕ)) → HasReadLines file r lines → lines_in (drop r.at file) ≡ [] → lines_in file ≡ hashed lines
read_all file r lines read none = read.read ∙ ap (λ (l : List (List ℕ)). hashed lines ++ l) none ∙ append-nil (hashed lines)

pub read_end : {D : Type 0} {d : Ghosts D} (file : List ℕ) (r : LogReader D d) (lines : List (List ℕ)) → HasReadLines file r lines → lines_in (drop r.at file) ≡ [] → r.at ≡ length (text_of (lines_in file))
read_end file r lines read none = read.at ∙ ap (λ (l : List (List ℕ)). length (text_of l)) (sym (read_all file r lines read none))

-- what is wrong with the next line, in terms of the lines that were read
pub look_justified : {D : Type 0} {d : Ghosts D} (mixes : Bool) (file : List ℕ) (r : LogReader D d) (lines : List (List ℕ)) (e : LogError) → HasReadLines file r lines → IsLookFault file r e → JustifiesError mixes file lines e
look_justified mixes file r lines NoMemory read fault = tt
look_justified mixes file r lines (Disk e) read fault = tt
look_justified mixes file r lines FileTooLong read fault = absurd fault
look_justified mixes file r lines TextTooLong read fault = absurd fault
look_justified mixes file r lines (LineTooLong n) read fault =
    (fault.0 ∙ read.count, subst (λ (k : ℕ). IsLongLine (drop k file)) read.at fault.1)
look_justified mixes file r lines (Damaged n) read fault = absurd fault
look_justified mixes file r lines Unread read fault = absurd fault

pub next_justified : {D : Type 0} {d : Ghosts D} (mixes : Bool) (file : List ℕ) (r : LogReader D d) (lines : List (List ℕ)) (e : LogError) → HasReadLines file r lines → IsNextFault mixes file r e → JustifiesError mixes file lines e
next_justified mixes file r lines NoMemory read fault = tt
next_justified mixes file r lines (Disk e) read fault = tt
next_justified mixes file r lines FileTooLong read fault = absurd fault
next_justified mixes file r lines TextTooLong read fault = absurd fault
next_justified mixes file r lines (LineTooLong n) read fault = look_justified mixes file r lines (LineTooLong n) read fault
next_justified mixes file r lines (Damaged n) read fault =
    let wrong : HasWrongEnd mixes file lines = record { all = read_all file r lines read fault.1; wrong = λ may. fault.2 (subst (MayEnd mixes) read.tail may) } in
    (fault.0 ∙ read.count, inr wrong)
next_justified mixes file r lines Unread read fault = absurd fault

pub past_justified : {D : Type 0} {d : Ghosts D} (mixes : Bool) (file : List ℕ) (r : LogReader D d) (lines : List (List ℕ)) (e : LogError) → HasReadLines file r lines → IsPastFault mixes file r e → JustifiesFinish mixes file lines e
past_justified mixes file r lines NoMemory read fault = tt
past_justified mixes file r lines (Disk e) read fault = tt
past_justified mixes file r lines FileTooLong read fault = absurd fault
past_justified mixes file r lines TextTooLong read fault = absurd fault
past_justified mixes file r lines (LineTooLong n) read fault = next_justified mixes file r lines (LineTooLong n) read fault
past_justified mixes file r lines (Damaged n) read fault = next_justified mixes file r lines (Damaged n) read fault
past_justified mixes file r lines Unread read fault = (fault.0, fault.1, read.read ∙ ap (λ (l : List (List ℕ)). hashed lines ++ l) fault.2)

-- the same of a reader that has read as much of the same file
pub next_past : {D : Type 0} {d : Ghosts D} (mixes : Bool) (file now : List ℕ) (r s : LogReader D d) (e : LogError) → now ≡ file → s.at ≡ r.at → s.count ≡ r.count → IsNextFault mixes now s e → IsPastFault mixes file r e
next_past mixes file now r s NoMemory same at count fault = tt
next_past mixes file now r s (Disk e) same at count fault = tt
next_past mixes file now r s FileTooLong same at count fault = absurd fault
next_past mixes file now r s TextTooLong same at count fault = absurd fault
next_past mixes file now r s (LineTooLong n) same at count fault =
    (fault.0 ∙ count, subst (λ (k : ℕ). IsLongLine (drop k file)) at (subst (λ (f : List ℕ). IsLongLine (drop s.at f)) same fault.1))
next_past mixes file now r s (Damaged n) same at count fault =
    let here = λ (P : List ℕ → Type 0) (p : P (drop s.at now)). subst (λ (k : ℕ). P (drop k file)) at (subst (λ (f : List ℕ). P (drop s.at f)) same p) in
    (fault.0 ∙ count, here (λ (b : List ℕ). lines_in b ≡ []) fault.1, here (λ (b : List ℕ). MayEnd mixes (tail_in b) → ⊥) fault.2)
next_past mixes file now r s Unread same at count fault = absurd fault

pub disk_finish : (mixes : Bool) (file : List ℕ) (lines : List (List ℕ)) (old new : ℕ) (e : LogError) → IsDiskFault old new e → JustifiesFinish mixes file lines e
disk_finish mixes file lines old new NoMemory fault = absurd fault
disk_finish mixes file lines old new (Disk e) fault = tt
disk_finish mixes file lines old new FileTooLong fault = absurd fault
disk_finish mixes file lines old new TextTooLong fault = absurd fault
disk_finish mixes file lines old new (LineTooLong n) fault = absurd fault
disk_finish mixes file lines old new (Damaged n) fault = absurd fault
disk_finish mixes file lines old new Unread fault = absurd fault

-- what holds of the error that `?` hands on
pub of_error : {T : Type 0} (r : Result T LogError) (P : LogError → Type 0) (e : LogError) → IsErrAnd r (λ x. x ≡ e) → P e → IfErr r P
of_error (Ok x) P e gives p = absurd gives
of_error (Err y) P e gives p = subst P (sym gives) p

pub of_any_error : {T E : Type 0} (r : Result T E) (P : E → Type 0) (e : E) → IsErrAnd r (λ x. x ≡ e) → P e → IfErr r P
of_any_error (Ok x) P e gives p = absurd gives
of_any_error (Err y) P e gives p = subst P (sym gives) p

-- what is wrong with the next line keeps a log from being opened
pub error_finish : (mixes : Bool) (file : List ℕ) (lines : List (List ℕ)) (e : LogError) → JustifiesError mixes file lines e → JustifiesFinish mixes file lines e
error_finish mixes file lines NoMemory fault = tt
error_finish mixes file lines (Disk e) fault = tt
error_finish mixes file lines FileTooLong fault = absurd fault
error_finish mixes file lines TextTooLong fault = absurd fault
error_finish mixes file lines (LineTooLong n) fault = fault
error_finish mixes file lines (Damaged n) fault = fault
error_finish mixes file lines Unread fault = absurd fault

-- an error from outside is no fault of the next line
pub outside_fault : {D : Type 0} {d : Ghosts D} (file : List ℕ) (r : LogReader D d) (e : LogError) → IsOutside e → IsLookFault file r e
outside_fault file r NoMemory outside = tt
outside_fault file r (Disk e) outside = tt
outside_fault file r FileTooLong outside = absurd outside
outside_fault file r TextTooLong outside = absurd outside
outside_fault file r (LineTooLong n) outside = absurd outside
outside_fault file r (Damaged n) outside = absurd outside
outside_fault file r Unread outside = absurd outside
