-- That `==` decides which operators and words of models are equal.
use Rattle.std.proofs.Common.{Bool}
use Rattle.eprime_tree.specs.declared.words.POp1.{POp1}
use Rattle.eprime_tree.specs.declared.words.POp2.{POp2}
use Rattle.eprime_tree.specs.declared.words.PFun.{PFun}
use Rattle.eprime_tree.specs.contracts.words.POp1 as op1
use Rattle.eprime_tree.specs.contracts.words.POp2 as op2
use Rattle.eprime_tree.specs.contracts.words.PFun as fun
use Rattle.eprime_tree.specs.contracts.words.POp1PartialEq.TheImpl as op1_test
use Rattle.eprime_tree.specs.contracts.words.POp2PartialEq.TheImpl as op2_test
use Rattle.eprime_tree.specs.contracts.words.PFunPartialEq.TheImpl as fun_test
use Rattle.ess_core_equality.proofs.Known.{Knows, known_bare}

-- The derived test of operators with one operand.
abbrev pub op1_same : POp1 → POp1 → Bool
op1_same = op1_test.ghosts.eq

-- It knows each of them.
pub known_op1 : (x : POp1) → Knows op1_same x
known_op1 = known_bare op1.the_type tt

-- The derived test of operators with two operands.
abbrev pub op2_same : POp2 → POp2 → Bool
op2_same = op2_test.ghosts.eq

-- It knows each of them.
pub known_op2 : (x : POp2) → Knows op2_same x
known_op2 = known_bare op2.the_type tt

-- The derived test of words over lists.
abbrev pub fun_same : PFun → PFun → Bool
fun_same = fun_test.ghosts.eq

-- It knows each of them.
pub known_fun : (x : PFun) → Knows fun_same x
known_fun = known_bare fun.the_type tt
