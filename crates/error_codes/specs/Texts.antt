-- What is printed about a code.
use Rattle.std.specs.Prelude.{codes, ◌++◌, [], List, ℕ, Option, Some, None, option_map, string_bytes}
use Rattle.error_codes.specs.Codes.{code_name}
use Rattle.error_codes.specs.declared.row.Row.{Row}
use Rattle.error_codes.specs.declared.explanation.Explanation.{Explanation}

-- the lines on the key, if one is asked for: its name, and what it takes
abbrev pub field_lines : Option (List ℕ) → List ℕ → List ℕ
field_lines None note = []
field_lines (Some field) note = codes "\nThe key `" ++ (field ++ (codes "`: " ++ (note ++ codes "\n")))

-- what the page says of a code: the meaning, the likely cause, the cure and whether to retry, each in a line
abbrev pub row_text : Row → List ℕ
row_text row =
    row.meaning.now ++ (codes "\nLikely cause: " ++ (row.cause.now ++ (codes "\nCure: " ++ (row.cure.now ++ (codes "\nRetry: " ++ (row.retry.now
    ++ codes "\n  (no: the line must change; book: once the book has changed; yes: as it is)\n"))))))

-- the code by its name with its row, then the lines on the key
abbrev pub explanation_text : Explanation → List ℕ
explanation_text e = code_name e.row.code ++ (codes ": " ++ (row_text e.row ++ field_lines (option_map string_bytes e.field) e.note.now))
