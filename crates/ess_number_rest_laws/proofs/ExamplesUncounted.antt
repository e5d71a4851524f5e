-- Worked examples of operands that are no comprehensions over what is picked.
use Rattle.std.proofs.Common.{◌≡◌, refl, true, false, codes}
use Rattle.ess_semantics.specs.declared.words.Op2.{Op2}
use Rattle.ess_semantics.specs.Values.{Text}
use Rattle.ess_semantics.specs.Trees.{name_pat, Ex, comp_ex, no_gens, over, from, bool_dom}
use Rattle.ess_semantics.proofs.Shorthands.{N, bi, upto, at}
use Rattle.ess_number_rest_laws.specs.Uncounted.{Uncounted, OperandsUncounted}

abbrev i : Text
i = codes "i"

abbrev y : Text
y = codes "y"

-- `[y | i : int(1..2), y <- t]`.
abbrev items_of : Ex → Ex
items_of t = comp_ex (N y) (over (name_pat i) (upto 2) (from (name_pat y) t no_gens))

-- `m` and `m[i]`.
abbrev named : Ex
named = N (codes "m")

abbrev picked : Ex
picked = at named (N i)

-- A name isn't picked, and what runs over domains alone runs over nothing that is.
over_a_name : Uncounted (items_of named) ≡ (false ≡ false)
over_a_name = refl

over_a_domain : Uncounted (comp_ex (N i) (over (name_pat i) bool_dom no_gens)) ≡ Unit {0}
over_a_domain = refl

-- An item of a matrix is, behind plain generators too.
over_an_item : Uncounted (items_of picked) ≡ (true ≡ false)
over_an_item = refl

-- Neither of two operands may run over one; one may be picked itself.
both_operands : OperandsUncounted (bi Op2.Eq (items_of named) picked) ≡ ((false ≡ false) × Unit {0})
both_operands = refl

one_operand : OperandsUncounted (bi Op2.LexLe named (items_of picked)) ≡ (Unit {0} × (true ≡ false))
one_operand = refl
