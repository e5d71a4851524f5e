-- Worked examples: channels of truth values, and a tuple's tables by its components.
use Rattle.std.proofs.Common.{◌≡◌, refl, true, false, [], ◌∷◌, ℤ, pos, Some, None}
use Rattle.std.specs.Prelude.{codes}
use Rattle.ess_semantics.specs.declared.words.ReprKind.{ReprKind}
use Rattle.ess_semantics.specs.Values.{truth, tuple, of_list}
use Rattle.ess_semantics.specs.Trees.{Repr, repr, no_reprs, more_reprs, bool_dom}
use Rattle.ess_semantics.specs.Domains.{Domain, booleans, tuples, no_domains, more_domains}
use Rattle.ess_semantics.specs.Tables.{one_cell}
use Rattle.ess_semantics.specs.Representations.{value_of_tables}
use Rattle.ess_semantics.specs.Canonical.{tables_of_value}
use Rattle.ess_semantics.specs.Meaning.{Env, meaning}
use Rattle.ess_repr_laws.specs.Channel.{channel}
use Rattle.ess_repr_layers_laws.specs.Components.{tables_of_components, values_of_components}

abbrev atom : Repr
atom = repr ReprKind.Atom no_reprs

-- The tables a and b have one cell each.
abbrev under : ℤ → ℤ → Env
under m n = record { positions = true; types = []; vals = []; cells = (codes "a", one_cell m) ∷ (codes "b", one_cell n) ∷ [] }

-- Both stand for true.
pub of-true : meaning (channel bool_dom atom (codes "a" ∷ []) atom (codes "b" ∷ [])) (under (pos 1) (pos 1)) ≡ Some (truth true)
of-true = refl

-- One stands for true, the other one for false.
pub of-both : meaning (channel bool_dom atom (codes "a" ∷ []) atom (codes "b" ∷ [])) (under (pos 1) (pos 0)) ≡ Some (truth false)
of-both = refl

-- A number that is no cell of bool counts as false, and so the channel is true though it stands for nothing.
pub of-no-cell : meaning (channel bool_dom atom (codes "a" ∷ []) atom (codes "b" ∷ [])) (under (pos 5) (pos 0)) ≡ Some (truth true)
of-no-cell = refl

pub stands-for-none : value_of_tables atom booleans (one_cell (pos 5) ∷ []) [] ≡ None
stands-for-none = refl

-- Pairs of truth values.
abbrev pairs : Domain
pairs = tuples (more_domains booleans (more_domains booleans no_domains))

pub of-pair : tables_of_value (repr ReprKind.Tuple (more_reprs atom (more_reprs atom no_reprs))) pairs
    (tuple (of_list (truth true ∷ truth false ∷ [])))
    ≡ tables_of_components (more_reprs atom (more_reprs atom no_reprs)) (booleans ∷ booleans ∷ []) (truth true ∷ truth false ∷ [])
of-pair = refl

pub of-pair-back : values_of_components (more_reprs atom (more_reprs atom no_reprs)) (booleans ∷ booleans ∷ [])
    (one_cell (pos 1) ∷ one_cell (pos 0) ∷ []) ≡ Some (truth true ∷ truth false ∷ [])
of-pair-back = refl
