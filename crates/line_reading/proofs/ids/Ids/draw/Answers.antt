use Rattle.std.proofs.Common.{ap, ◌∙◌}
use Rattle.uuid.specs.Parts.{with_variant, with_version}
use Rattle.uuid.specs.declared.Variant.TheVariants.{RFC4122}
use Rattle.uuid.specs.declared.Version.TheVariants.{Random}
use Rattle.line_reading.specs.Ids.{next_id, after_id}
use Rattle.line_reading.proofs.Draws.{drawn-id, drawn-after}
use Rattle.line_reading.proofs.ids.Ids.draw.Goals as goal

pub returns-clause-id : goal.returns-clause-id
returns-clause-id c =
    drawn-id _ _ _ _ _ _ _ _ _ _ c.next_word-first.ensures c.next_word-second.ensures c.next_word-third.ensures c.next_word-fourth.ensures
    (c.into_uuid.ensures ∙ (c.from_random_bytes.ensures.value ∙ ap (λ bytes. with_version (with_variant bytes RFC4122) Random) c.bytes_of.ensures))
    ∙ ap next_id c.self.view_is

pub returns-clause-after : goal.returns-clause-after
returns-clause-after c =
    drawn-after _ _ _ _ _ _ _ _ _ c.next_word-first.ensures c.next_word-second.ensures c.next_word-third.ensures c.next_word-fourth.ensures
    ∙ ap after_id c.self.view_is
