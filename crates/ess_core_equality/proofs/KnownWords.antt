-- That `==` decides which words are equal.
use Rattle.std.proofs.Common.{Bool}
use Rattle.ess_semantics.specs.declared.words.Op1.{Op1}
use Rattle.ess_semantics.specs.declared.words.Op2.{Op2}
use Rattle.ess_semantics.specs.declared.words.Fun.{Fun}
use Rattle.ess_semantics.specs.declared.words.Key.{Key}
use Rattle.ess_semantics.specs.declared.words.ReprKind.{ReprKind}
use Rattle.ess_semantics.specs.contracts.words.Op1 as op1
use Rattle.ess_semantics.specs.contracts.words.Op2 as op2
use Rattle.ess_semantics.specs.contracts.words.Fun as fun
use Rattle.ess_semantics.specs.contracts.words.Key as key
use Rattle.ess_semantics.specs.contracts.words.ReprKind as kind
use Rattle.ess_semantics.specs.contracts.words.Op1PartialEq.TheImpl as op1_test
use Rattle.ess_semantics.specs.contracts.words.Op2PartialEq.TheImpl as op2_test
use Rattle.ess_semantics.specs.contracts.words.FunPartialEq.TheImpl as fun_test
use Rattle.ess_semantics.specs.contracts.words.KeyPartialEq.TheImpl as key_test
use Rattle.ess_semantics.specs.contracts.words.ReprKindPartialEq.TheImpl as kind_test
use Rattle.ess_core_equality.proofs.Known.{Knows, known_bare}

abbrev pub op1_same : Op1 → Op1 → Bool
op1_same = op1_test.ghosts.eq

pub known_op1 : (x : Op1) → Knows op1_same x
known_op1 = known_bare op1.the_type tt

abbrev pub op2_same : Op2 → Op2 → Bool
op2_same = op2_test.ghosts.eq

pub known_op2 : (x : Op2) → Knows op2_same x
known_op2 = known_bare op2.the_type tt

abbrev pub fun_same : Fun → Fun → Bool
fun_same = fun_test.ghosts.eq

pub known_fun : (x : Fun) → Knows fun_same x
known_fun = known_bare fun.the_type tt

abbrev pub key_same : Key → Key → Bool
key_same = key_test.ghosts.eq

pub known_key : (x : Key) → Knows key_same x
known_key = known_bare key.the_type tt

abbrev pub kind_same : ReprKind → ReprKind → Bool
kind_same = kind_test.ghosts.eq

pub known_kind : (x : ReprKind) → Knows kind_same x
known_kind = known_bare kind.the_type tt
