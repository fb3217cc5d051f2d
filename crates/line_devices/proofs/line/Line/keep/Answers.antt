use Rattle.std.proofs.Common.{◌≡◌, ◌++◌, length, arith}
use Rattle.std.proofs.lemmas.Grind.{common_steps}
use Rattle.std.specs.Prelude.{IsOk}
use Rattle.line_devices.proofs.LinesLemmas.{kept_bytes-is, kept-filled}
use Rattle.line_devices.proofs.line.Line.keep.Goals as goal

pub returns : goal.returns
returns c =
    let most = kept_bytes-is in
    let full : IsOk c.extend_from_slice.result = c.extend_from_slice.ensures.succeeds (grind (arith, common_steps)) in
    let len : c.len-room.result ≡ length c.self.inside.bytes.items = grind (arith, common_steps) in
    let filled : c.extend_from_slice.new.self.items ≡ c.self.inside.bytes.items ++ c.first_bytes.result.now = rw full at c.extend_from_slice.ensures.items in
    kept-filled 1048577 _ _ _ _ _ _ most len (grind (arith)) c.self.view_is c.first_bytes.ensures filled
