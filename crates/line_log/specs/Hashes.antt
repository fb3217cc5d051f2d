-- The hashes of the lines of a log.
use Rattle.std.specs.Prelude.{◌≡◌, Bool, ℕ, List, [], ◌∷◌, ◌++◌, take}
use Rattle.sha2.specs.Sha256.{sha256}
use Rattle.hex.specs.Hex.{encode_lower}
use Rattle.line_log.specs.Lines.{lines_in}
use Rattle.line_log.specs.Tails.{tail_in, MayEnd}

-- the hash of a text: the first 16 bytes of its SHA-256, as 32 hexadecimal digits
unfoldable pub hash_of : List ℕ → List ℕ
hash_of text = encode_lower (take 16 (sha256 text))

-- a line with its hash: a space, and the hash of the text before the line and of the line with its LF
abbrev pub hashed_line : List ℕ → List ℕ → List ℕ
hashed_line before line = line ++ 32 ∷ hash_of (before ++ line ++ 10 ∷ [])

-- lines with their hashes, behind this text
abbrev pub hashed_after : List ℕ → List (List ℕ) → List (List ℕ)
hashed_after before [] = []
hashed_after before (line ∷ lines) = hashed_line before line ∷ hashed_after (before ++ line ++ 10 ∷ []) lines

-- the lines of a log as its file has them: the hash of each is that of the text of all lines up to it
abbrev pub hashed : List (List ℕ) → List (List ℕ)
hashed lines = hashed_after [] lines

-- The file has these lines and the first k of the others, for some k, each with its hash, and it ends as a crash may leave it.
pub record CrashMayLeave (mixes : Bool) (lines others : List (List ℕ)) (file : List ℕ) : Type 0 where
  pub found : List (List ℕ)
  pub rest : List (List ℕ)
  pub others_are : others ≡ found ++ rest
  pub holds : lines_in file ≡ hashed (lines ++ found)
  pub end : MayEnd mixes (tail_in file)
