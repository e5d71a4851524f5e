-- Views where there are no tables.
use Rattle.std.proofs.Common.{◌≡◌, List, [], ◌∷◌, Option, Some, None, refl, ap, sym, ◌∙◌}
use Rattle.ess_semantics.specs.Values.{Text}
use Rattle.ess_semantics.specs.Lists.{and_then}
use Rattle.ess_semantics.specs.Operators.{false_where_undefined}
use Rattle.ess_semantics.specs.Domains.{Domain}
use Rattle.ess_semantics.specs.Values.{Value}
use Rattle.ess_semantics.specs.Meaning.{meaning, is_bool_dom, domain_of}
use Rattle.ess_core.specs.TreeViews.{pure_dom, pure_view}
use Rattle.ess_core.specs.declared.expressions.View.{View}
use Rattle.ess_core.specs.declared.domains.Dom.TheViews.{out-View}
use Rattle.ess_core.specs.declared.tables.Binding.{Binding}
use Rattle.ess_core.specs.declared.tables.Env.{Env}
use Rattle.ess_core.proofs.PartEquations.{pure_view_is}
use Rattle.ess_eval.specs.Environments.{env_at}

nothing : (o : Option Domain) → and_then {B = Value} o (λ e. None) ≡ None
nothing None = refl
nothing (Some d) = refl

-- A view that names a table has no value, since its table isn't there.
pub without_tables : (v : View) (n : Text) (ns : List Text) (env : Env) (bs : List Binding) → (out-View v).cells ≡ n ∷ ns
    → meaning (pure_view v) (env_at env bs) ≡ false_where_undefined (is_bool_dom (pure_dom (out-View v).dom)) None
without_tables v n ns env bs h =
    rw (pure_view_is v, h) (ap (false_where_undefined (is_bool_dom (pure_dom (out-View v).dom))) (nothing (domain_of (pure_dom (out-View v).dom) (env_at env bs))))
