use Rattle.std.proofs.Common.{◌∙◌}
use Rattle.conjure_modelling.proofs.written.printed.Goals as goal

-- src/written.rt
pub is_readable-requires : goal.is_readable-requires
is_readable-requires c = record {
  text = c.as_slice.ensures.value ∙ c.in_ok-text.ensures.text;
  head = c.requires.head;
}
