use Rattle.std.proofs.Common.{◌≡◌, ◌∙◌, ap, bytes_eq, string_bytes}
use Rattle.std.specs.Map.{lookup}
use Rattle.ess_types_names.proofs.Tables.{declared_there}
use Rattle.ess_types_names.proofs.table.declared_type.Goals as goal

pub returns-in-Some : goal.returns-in-Some
returns-in-Some c =
    declared_there c.args.declared.now.entries c.args.name.now c.in-Some.ty.now c.get-in-Some.result.now c.requires
    (c.in-Some.ensures.value ∙ ap (λ a. lookup (λ k. bytes_eq a (string_bytes k)) c.args.declared.now.entries) c.as_str.ensures) c.get-in-Some.ensures
