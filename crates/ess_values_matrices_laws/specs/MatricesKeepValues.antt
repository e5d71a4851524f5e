-- The rule of `=` of matrices over two index domains keeps at its root that each part of the tree has a value wherever its context holds,
-- but for numbers in natural places: behind the test that each index domain lies in the other one, both items at an index are there.
use Rattle.std.specs.Prelude.{◌≡◌, Bool, true, Some}
use Rattle.ess_semantics.specs.Names.{Names}
use Rattle.ess_semantics.specs.Trees.{Ex, node_ex, ex2}
use Rattle.ess_semantics.specs.Types.{Ty}
use Rattle.ess_semantics.specs.Typed.{Typed}
use Rattle.ess_semantics.specs.Meaning.{Env}
use Rattle.ess_refine_laws.specs.AllRules.{equal_matrices_at, Supply, rewrite}
use Rattle.ess_refine_laws.specs.WhatRulesCountOn.{CountsOn}
use Rattle.ess_values_along_laws.specs.Valued.{Valued, DomValued}
use Rattle.ess_values_terms_laws.specs.TermsKeepValues.{are_compound}

-- The operands are neither cells nor numbers by their form.
abbrev pub ComparesMatrices : Ex → Type 0
ComparesMatrices (node_ex b op es) = are_compound es ≡ true
ComparesMatrices e = Unit {0}

-- The index domains that the rule takes have values.
abbrev pub AxesValued : Supply → Ex → Env → Type 0
AxesValued s (ex2 m o a b) env = DomValued (s.index_domain a) env × DomValued (s.index_domain b) env
AxesValued s e env = Unit {0}

-- So it keeps values where it has what it counts on.
abbrev pub MatricesKeepValues : Type 0
MatricesKeepValues = (s : Supply) (g : Names Ty) (e f : Ex) → rewrite s g equal_matrices_at e ≡ Some f → ComparesMatrices e → (env : Env) →
    Typed g env → CountsOn s g equal_matrices_at e env → AxesValued s e env → (w : Bool) → Valued w e env → Valued w f env
