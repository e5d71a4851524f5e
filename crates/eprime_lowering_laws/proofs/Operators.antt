-- The operators of refined trees are those of models.
use Rattle.std.proofs.Common.{◌≡◌, refl, true, false}
use Rattle.ess_semantics.specs.declared.words.Op2.{Op2}
use Rattle.ess_semantics.specs.declared.words.Fun.{Fun}
use Rattle.ess_semantics.specs.Trees.{Op, unary, binary, word, Ex, no_exs, more_exs}
use Rattle.ess_semantics.specs.Refined.{is_scalar_op, is_list_op}
use Rattle.eprime_lowering_laws.specs.Lowerable.{is_prefix, is_over_list, is_infix, is_lex}
use Rattle.eprime_lowering_laws.specs.Formed.{has_operands}

-- ---- from refined trees, with one operand

pub scalar-prefix : (op : Op) (a : Ex) → is_scalar_op op ≡ true → has_operands op (more_exs a no_exs) ≡ true → is_prefix op ≡ true
scalar-prefix (unary o) a h k = refl
scalar-prefix (binary o) a h k = cc
scalar-prefix (word Fun.ToInt) a h k = refl
scalar-prefix (word _) a h k = cc
scalar-prefix op a h k = cc

pub list-not_prefix : (op : Op) → is_list_op op ≡ true → is_prefix op ≡ false
list-not_prefix (unary o) h = cc
list-not_prefix (binary o) h = refl
list-not_prefix (word Fun.ToInt) h = cc
list-not_prefix (word _) h = refl
list-not_prefix op h = refl

pub list-over : (op : Op) (a : Ex) → is_list_op op ≡ true → has_operands op (more_exs a no_exs) ≡ true → is_over_list op ≡ true
list-over (unary o) a h k = cc
list-over (binary o) a h k = cc
list-over (word Fun.And) a h k = refl
list-over (word Fun.Or) a h k = refl
list-over (word Fun.Sum) a h k = refl
list-over (word Fun.Product) a h k = refl
list-over (word Fun.Min) a h k = refl
list-over (word Fun.Max) a h k = refl
list-over (word Fun.AllDiff) a h k = refl
list-over (word _) a h k = cc
list-over op a h k = cc

-- ---- with two

scalar-plain : (o : Op2) → is_scalar_op (binary o) ≡ true → is_infix (binary o) ≡ true
scalar-plain Op2.Pow h = refl
scalar-plain Op2.Times h = refl
scalar-plain Op2.Div h = refl
scalar-plain Op2.Mod h = refl
scalar-plain Op2.Plus h = refl
scalar-plain Op2.Minus h = refl
scalar-plain Op2.Eq h = refl
scalar-plain Op2.Ne h = refl
scalar-plain Op2.Lt h = refl
scalar-plain Op2.Le h = refl
scalar-plain Op2.Gt h = refl
scalar-plain Op2.Ge h = refl
scalar-plain Op2.And h = refl
scalar-plain Op2.Or h = refl
scalar-plain Op2.Implies h = refl
scalar-plain Op2.Iff h = refl
scalar-plain _ h = cc

pub scalar-infix : (op : Op) (a b : Ex) → is_scalar_op op ≡ true → has_operands op (more_exs a (more_exs b no_exs)) ≡ true →
    is_infix op ≡ true
scalar-infix (unary o) a b h k = cc
scalar-infix (binary o) a b h k = scalar-plain o h
scalar-infix (word f) a b h k = cc
scalar-infix op a b h k = cc

lex-sign : (o : Op2) → is_list_op (binary o) ≡ true → is_lex (binary o) ≡ true
lex-sign Op2.LexLt h = refl
lex-sign Op2.LexLe h = refl
lex-sign Op2.LexGt h = refl
lex-sign Op2.LexGe h = refl
lex-sign _ h = cc

lex-not_plain : (o : Op2) → is_list_op (binary o) ≡ true → is_infix (binary o) ≡ false
lex-not_plain Op2.LexLt h = refl
lex-not_plain Op2.LexLe h = refl
lex-not_plain Op2.LexGt h = refl
lex-not_plain Op2.LexGe h = refl
lex-not_plain _ h = cc

pub list-not_infix : (op : Op) → is_list_op op ≡ true → is_infix op ≡ false
list-not_infix (unary o) h = refl
list-not_infix (binary o) h = lex-not_plain o h
list-not_infix (word f) h = refl
list-not_infix op h = refl

pub list-lex : (op : Op) (a b : Ex) → is_list_op op ≡ true → has_operands op (more_exs a (more_exs b no_exs)) ≡ true → is_lex op ≡ true
list-lex (unary o) a b h k = cc
list-lex (binary o) a b h k = lex-sign o h
list-lex (word f) a b h k = cc
list-lex op a b h k = cc

-- ---- back

pub prefix-scalar : (op : Op) → is_prefix op ≡ true → is_scalar_op op ≡ true
prefix-scalar (unary o) h = refl
prefix-scalar (binary o) h = cc
prefix-scalar (word Fun.ToInt) h = refl
prefix-scalar (word _) h = cc
prefix-scalar op h = cc

pub prefix-operand : (op : Op) (a : Ex) → is_prefix op ≡ true → has_operands op (more_exs a no_exs) ≡ true
prefix-operand (unary o) a h = refl
prefix-operand (binary o) a h = cc
prefix-operand (word f) a h = refl
prefix-operand op a h = cc

pub over-list : (op : Op) → is_over_list op ≡ true → is_list_op op ≡ true
over-list (unary o) h = cc
over-list (binary o) h = cc
over-list (word Fun.And) h = refl
over-list (word Fun.Or) h = refl
over-list (word Fun.Sum) h = refl
over-list (word Fun.Product) h = refl
over-list (word Fun.Min) h = refl
over-list (word Fun.Max) h = refl
over-list (word Fun.AllDiff) h = refl
over-list (word _) h = cc
over-list op h = cc

pub over-operand : (op : Op) (a : Ex) → is_over_list op ≡ true → has_operands op (more_exs a no_exs) ≡ true
over-operand (unary o) a h = refl
over-operand (binary o) a h = cc
over-operand (word f) a h = refl
over-operand op a h = cc

plain-scalar : (o : Op2) → is_infix (binary o) ≡ true → is_scalar_op (binary o) ≡ true
plain-scalar Op2.Pow h = refl
plain-scalar Op2.Times h = refl
plain-scalar Op2.Div h = refl
plain-scalar Op2.Mod h = refl
plain-scalar Op2.Plus h = refl
plain-scalar Op2.Minus h = refl
plain-scalar Op2.Eq h = refl
plain-scalar Op2.Ne h = refl
plain-scalar Op2.Lt h = refl
plain-scalar Op2.Le h = refl
plain-scalar Op2.Gt h = refl
plain-scalar Op2.Ge h = refl
plain-scalar Op2.And h = refl
plain-scalar Op2.Or h = refl
plain-scalar Op2.Implies h = refl
plain-scalar Op2.Iff h = refl
plain-scalar _ h = cc

pub infix-scalar : (op : Op) → is_infix op ≡ true → is_scalar_op op ≡ true
infix-scalar (unary o) h = cc
infix-scalar (binary o) h = plain-scalar o h
infix-scalar (word f) h = cc
infix-scalar op h = cc

pub infix-operands : (op : Op) (a b : Ex) → is_infix op ≡ true → has_operands op (more_exs a (more_exs b no_exs)) ≡ true
infix-operands (unary o) a b h = cc
infix-operands (binary o) a b h = refl
infix-operands (word f) a b h = cc
infix-operands op a b h = cc

sign-list : (o : Op2) → is_lex (binary o) ≡ true → is_list_op (binary o) ≡ true
sign-list Op2.LexLt h = refl
sign-list Op2.LexLe h = refl
sign-list Op2.LexGt h = refl
sign-list Op2.LexGe h = refl
sign-list _ h = cc

pub lex-list : (op : Op) → is_lex op ≡ true → is_list_op op ≡ true
lex-list (unary o) h = cc
lex-list (binary o) h = sign-list o h
lex-list (word f) h = cc
lex-list op h = cc

pub lex-operands : (op : Op) (a b : Ex) → is_lex op ≡ true → has_operands op (more_exs a (more_exs b no_exs)) ≡ true
lex-operands (unary o) a b h = cc
lex-operands (binary o) a b h = refl
lex-operands (word f) a b h = cc
lex-operands op a b h = cc
