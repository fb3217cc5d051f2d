-- The codes under which refusals are printed.
use Rattle.std.specs.Prelude.{ℕ, List, codes}
use Rattle.spiffe_name.specs.declared.refusals.IdRefusal.{IdRefusal}
use Rattle.spiffe_name.specs.declared.refusals.IdRefusal.TheVariants as id
use Rattle.spiffe_name.specs.declared.refusals.SelectorRefusal.{SelectorRefusal}
use Rattle.spiffe_name.specs.declared.refusals.SelectorRefusal.TheVariants as selector

abbrev pub id_code : IdRefusal → List ℕ
id_code id.TooLong = codes "I1"
id_code id.Scheme = codes "I2"
id_code id.NoDomain = codes "I3"
id_code id.DomainTooLong = codes "I4"
id_code id.DomainChar = codes "I5"
id_code id.EmptySegment = codes "I6"
id_code id.DotSegment = codes "I7"
id_code id.PathChar = codes "I8"

abbrev pub selector_code : SelectorRefusal → List ℕ
selector_code selector.TooLong = codes "S1"
selector_code selector.NoColon = codes "S2"
selector_code selector.EmptyType = codes "S3"
selector_code selector.EmptyValue = codes "S4"
