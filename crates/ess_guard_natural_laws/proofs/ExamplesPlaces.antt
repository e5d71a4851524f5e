-- Worked examples: what may have nothing in natural places, and what may not.
use Rattle.std.proofs.Common.{◌≡◌, refl, true, false, [], ◌∷◌, pos}
use Rattle.std.specs.Prelude.{codes}
use Rattle.ess_semantics.specs.declared.words.Op2.{Op2}
use Rattle.ess_semantics.specs.declared.words.Fun.{Fun}
use Rattle.ess_semantics.specs.Trees.{by_value, index, binary, set_literal, Ex, number_ex, node_ex, no_exs, more_exs, ex2, fun1}
use Rattle.ess_semantics.specs.Meaning.{empty_env}
use Rattle.ess_semantics.specs.Totality.{Total}
use Rattle.ess_guard_laws.specs.Guard.{make_natural}
use Rattle.ess_guard_natural_laws.specs.TotalButNatural.{opens_places, may_lack, TotalButNatural}

-- `1 / 0`
abbrev nothing : Ex
nothing = ex2 false Op2.Div (number_ex (pos 1)) (number_ex (pos 0))

-- `1 / 0 + 2 = 3`
abbrev compared : Ex
compared = ex2 true Op2.Eq (ex2 false Op2.Plus nothing (number_ex (pos 2))) (number_ex (pos 3))

-- The guard with natural places leaves it as it is,
pub compared-stays : make_natural (codes "p") (codes "q") compared ≡ compared
compared-stays = refl

-- and it is total but for the quotient, which isn't total.
pub compared-natural : TotalButNatural false compared empty_env
compared-natural = (λ h. cc, ((λ h. cc, ((tt, (tt, (tt, tt))), (tt, tt))), (tt, tt)))

pub compared-partial : Total compared empty_env → ⊥
compared-partial t = let r = t.1.0.1.0.0 refl in cc

-- The quotient in no natural place must have a value: by itself, and in a set, `min({1 / 0}) = 3`.
pub alone-partial : TotalButNatural false nothing empty_env → ⊥
alone-partial t = let r = t.0 refl in cc

pub alone-natural : TotalButNatural true nothing empty_env
alone-natural = (tt, (tt, (tt, tt)))

abbrev least : Ex
least = ex2 true Op2.Eq (fun1 false Fun.Min (node_ex false set_literal (more_exs nothing no_exs))) (number_ex (pos 3))

pub least-partial : TotalButNatural false least empty_env → ⊥
least-partial t = let r = t.1.0.1.0.1.0.0 refl in cc

-- A quotient may have nothing in a natural place, and a sum may not: it has a value where its operands have. An item of a matrix may
-- not either, and its index stands in no natural place.
pub lacking : (may_lack true false (binary Op2.Div) ≡ true) × (may_lack true false (binary Op2.Plus) ≡ false)
    × (may_lack true false (index (by_value ∷ [])) ≡ false) × (opens_places true false (index (by_value ∷ [])) ≡ false)
lacking = (refl, refl, refl, refl)
