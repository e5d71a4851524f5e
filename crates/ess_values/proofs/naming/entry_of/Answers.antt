use Rattle.std.proofs.Common.{ap, ◌∙◌, option_map, reverse}
use Rattle.std.specs.List.{find}
use Rattle.ess_semantics.specs.Order.{same_text}
use Rattle.ess_core.specs.TableViews.{pure_type_entry}
use Rattle.ess_values.proofs.Entries.{entry_found}
use Rattle.ess_values.proofs.naming.entry_of.Goals as goal

pub returns : goal.returns
returns c =
    ap (option_map pure_type_entry) (c.newest.ensures ∙ ap (λ ts. find (λ e. same_text e.name c.args.name.now) (reverse ts)) c.as_slice.ensures)
    ∙ entry_found (reverse c.args.env.now.types) c.args.name.now
