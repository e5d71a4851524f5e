use Rattle.std.proofs.Common.{◌≡◌, sym, ap, ◌∙◌, rules, Some, None}
use Rattle.std.specs.Prelude.{reverse}
use Rattle.std.specs.List.{find}
use Rattle.std.specs.Option.{option_copied}
use Rattle.ess_semantics.specs.Order.{same_text}
use Rattle.ess_core.specs.declared.tables.Binding.{Binding}
use Rattle.ess_eval.proofs.Lookups.{look_second}
use Rattle.ess_eval.proofs.names.value_of_name.Goals as goal

pub returns-in-Some-newest : goal.returns-in-Some-newest
returns-in-Some-newest c =
    let e : None ≡ find {X = Binding} (λ b. same_text b.name c.args.name.now) (reverse c.args.bound.now) = sym (ap option_copied c.in-None.is) ∙ c.newest.ensures in
    let f : Some c.in-Some-newest.binding.now ≡ find {X = Binding} (λ b. same_text b.name c.args.name.now) (reverse c.as_slice.result.now) = sym (ap option_copied c.in-Some-newest.is) ∙ c.newest-in-None.ensures in
    let g : c.as_slice.result.now ≡ c.args.env.now.vals = c.as_slice.ensures ∙ ap (λ e. e.vals) c.env.ensures in
    sym (look_second c.args.bound.now c.args.env.now.vals c.args.name.now c.in-Some-newest.binding.now e (rw g at f))
