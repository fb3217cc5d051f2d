-- The version of the programs.
use Rattle.std.specs.Prelude.{codes, List, ℕ}

-- what `--version` prints: the version, and the logic with which the program is proved
abbrev pub version_text : List ℕ
version_text = codes "regd 1.0+unreleased\nlogic dac8208d650f15bf\n"
