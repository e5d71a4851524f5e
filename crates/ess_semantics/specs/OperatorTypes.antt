-- The type of an operator's result, where the types of its operands fit, after the tables of the manual's chapter on
-- expressions. An operand of the type of an empty literal's members fits everywhere.
use Rattle.std.specs.Prelude.{List, [], ◌∷◌, map, Option, Some, None, option_map}
use Rattle.ess_semantics.specs.declared.words.Op1.{Op1}
use Rattle.ess_semantics.specs.declared.words.Op2.{Op2}
use Rattle.ess_semantics.specs.declared.words.Fun.{Fun}
use Rattle.ess_semantics.specs.Lists.{and_then, zip}
use Rattle.ess_semantics.specs.Values.{a_tuple, a_matrix, a_set, a_mset, a_function, a_relation, a_partition, a_record}
use Rattle.ess_semantics.specs.Names.{Names, keys, by_name}
use Rattle.ess_semantics.specs.Trees.{Op, unary, binary, word, application, tuple_literal, set_literal, mset_literal, function_literal, relation_literal, partition_literal, matrix_literal, record_literal}
use Rattle.ess_semantics.specs.Types.{Ty, Tys, any_ty, bool_ty, int_ty, named_ty, compound, no_tys, more_tys, compound1, compound2, tys_of, join, join_all, fit}

-- ---- operands of one sort

-- What `|x|` takes.
abbrev pub sized : Ty → Option Ty
sized int_ty = Some int_ty
sized any_ty = Some int_ty
sized (compound a_set ts) = Some int_ty
sized (compound a_mset ts) = Some int_ty
sized (compound a_function ts) = Some int_ty
sized (compound a_relation ts) = Some int_ty
sized _ = None

-- A set or relation, for union, intersection and difference.
abbrev pub united : Ty → Option Ty
united any_ty = Some any_ty
united (compound a_set ts) = Some (compound a_set ts)
united (compound a_relation ts) = Some (compound a_relation ts)
united _ = None

-- What `-` takes.
abbrev pub subtracted : Ty → Option Ty
subtracted int_ty = Some int_ty
subtracted t = united t

-- What `<` compares. That a named type is an enumerated one is asked of the whole specification.
abbrev pub compared : Ty → Option Ty
compared int_ty = Some bool_ty
compared bool_ty = Some bool_ty
compared (named_ty t) = Some bool_ty
compared any_ty = Some bool_ty
compared _ = None

-- What the lexicographic signs compare: lists.
abbrev pub lex_compared : Ty → Option Ty
lex_compared (compound2 a_matrix i e) = compared e
lex_compared any_ty = Some bool_ty
lex_compared _ = None

-- What the signs of inclusion compare.
abbrev pub included : Ty → Option Ty
included (compound a_set ts) = Some bool_ty
included (compound a_mset ts) = Some bool_ty
included (compound a_relation ts) = Some bool_ty
included any_ty = Some bool_ty
included _ = None

-- The type of the tuples of a relation. Those of a relation of unknown arity have any type.
abbrev pub tuple_ty : Tys → Ty
tuple_ty no_tys = any_ty
tuple_ty (more_tys t ts) = compound a_tuple (more_tys t ts)

-- The type of what a generator takes from a source.
abbrev pub member_ty : Ty → Option Ty
member_ty (compound1 a_set a) = Some a
member_ty (compound1 a_mset a) = Some a
member_ty (compound2 a_function a b) = Some (compound2 a_tuple a b)
member_ty (compound a_relation ts) = Some (tuple_ty ts)
member_ty (compound1 a_partition a) = Some (compound1 a_set a)
member_ty (compound2 a_matrix i e) = Some e
member_ty any_ty = Some any_ty
member_ty _ = None

-- The type of the members of which `in` asks.
abbrev pub asked_ty : Ty → Option Ty
asked_ty (compound a_function ts) = None
asked_ty (compound a_partition ts) = None
asked_ty (compound a_matrix ts) = None
asked_ty t = member_ty t

-- A list is a comprehension or a matrix of one index.
abbrev pub list_ty : Ty → Option Ty
list_ty (compound2 a_matrix i e) = Some e
list_ty any_ty = Some any_ty
list_ty _ = None

-- What `min` and `max` choose among.
abbrev pub chosen_ty : Ty → Option Ty
chosen_ty int_ty = Some int_ty
chosen_ty (named_ty t) = Some (named_ty t)
chosen_ty any_ty = Some any_ty
chosen_ty _ = None

-- The type of a least or greatest member.
abbrev pub extreme_ty : Ty → Option Ty
extreme_ty (compound1 a_set e) = chosen_ty e
extreme_ty (compound1 a_mset e) = chosen_ty e
extreme_ty t = and_then (list_ty t) chosen_ty

-- ---- operators and function words

-- The type of an operator on one operand.
abbrev pub type_of_unary : Op1 → Ty → Option Ty
type_of_unary Op1.Minus t = fit t int_ty int_ty
type_of_unary Op1.Not t = fit t bool_ty bool_ty
type_of_unary Op1.Bar t = sized t

-- The type of an operator on two operands.
abbrev pub type_of_binary : Op2 → Ty → Ty → Option Ty
type_of_binary Op2.Intersect a b = and_then (join a b) united
type_of_binary Op2.Union a b = and_then (join a b) united
type_of_binary Op2.Minus a b = and_then (join a b) subtracted
type_of_binary Op2.Eq a b = fit a b bool_ty
type_of_binary Op2.Ne a b = fit a b bool_ty
type_of_binary Op2.Lt a b = and_then (join a b) compared
type_of_binary Op2.Le a b = and_then (join a b) compared
type_of_binary Op2.Gt a b = and_then (join a b) compared
type_of_binary Op2.Ge a b = and_then (join a b) compared
type_of_binary Op2.LexLt a b = and_then (join a b) lex_compared
type_of_binary Op2.LexLe a b = and_then (join a b) lex_compared
type_of_binary Op2.LexGt a b = and_then (join a b) lex_compared
type_of_binary Op2.LexGe a b = and_then (join a b) lex_compared
type_of_binary Op2.Member a b = and_then (asked_ty b) (λ m. fit a m bool_ty)
type_of_binary Op2.Subset a b = and_then (join a b) included
type_of_binary Op2.SubsetEq a b = and_then (join a b) included
type_of_binary Op2.Supset a b = and_then (join a b) included
type_of_binary Op2.SupsetEq a b = and_then (join a b) included
type_of_binary Op2.And a b = and_then (join a b) (λ t. fit t bool_ty bool_ty)
type_of_binary Op2.Or a b = and_then (join a b) (λ t. fit t bool_ty bool_ty)
type_of_binary Op2.Implies a b = and_then (join a b) (λ t. fit t bool_ty bool_ty)
type_of_binary Op2.Iff a b = and_then (join a b) (λ t. fit t bool_ty bool_ty)
type_of_binary _ a b = and_then (join a b) (λ t. fit t int_ty int_ty)

-- The type of `toSet`.
abbrev pub to_set_ty : Ty → Option Ty
to_set_ty (compound a_set ts) = None
to_set_ty (compound a_partition ts) = None
to_set_ty t = option_map (compound1 a_set) (member_ty t)

-- The type of `toMSet`.
abbrev pub to_mset_ty : Ty → Option Ty
to_mset_ty (compound1 a_set a) = Some (compound1 a_mset a)
to_mset_ty t = option_map (compound1 a_mset) (list_ty t)

-- The type of a function word on one operand.
abbrev pub type_of_word1 : Fun → Ty → Option Ty
type_of_word1 Fun.Sum t = and_then (list_ty t) (λ e. fit e int_ty int_ty)
type_of_word1 Fun.Product t = and_then (list_ty t) (λ e. fit e int_ty int_ty)
type_of_word1 Fun.And t = and_then (list_ty t) (λ e. fit e bool_ty bool_ty)
type_of_word1 Fun.Or t = and_then (list_ty t) (λ e. fit e bool_ty bool_ty)
type_of_word1 Fun.Min t = extreme_ty t
type_of_word1 Fun.Max t = extreme_ty t
type_of_word1 Fun.AllDiff t = option_map (λ e. bool_ty) (list_ty t)
type_of_word1 Fun.ToInt t = fit t bool_ty int_ty
type_of_word1 Fun.Defined (compound2 a_function a b) = Some (compound1 a_set a)
type_of_word1 Fun.Defined any_ty = Some (compound1 a_set any_ty)
type_of_word1 Fun.Range (compound2 a_function a b) = Some (compound1 a_set b)
type_of_word1 Fun.Range any_ty = Some (compound1 a_set any_ty)
type_of_word1 Fun.ToSet t = to_set_ty t
type_of_word1 Fun.ToMSet t = to_mset_ty t
type_of_word1 Fun.ToRelation (compound2 a_function a b) = Some (compound2 a_relation a b)
type_of_word1 Fun.ToRelation any_ty = Some (compound a_relation no_tys)
type_of_word1 Fun.Parts (compound1 a_partition a) = Some (compound1 a_set (compound1 a_set a))
type_of_word1 Fun.Parts any_ty = Some (compound1 a_set (compound1 a_set any_ty))
type_of_word1 Fun.Participants (compound1 a_partition a) = Some (compound1 a_set a)
type_of_word1 Fun.Participants any_ty = Some (compound1 a_set any_ty)
type_of_word1 _ t = None

-- The type of a function's values.
abbrev pub value_ty : Ty → Option Ty
value_ty (compound2 a_function a b) = Some b
value_ty _ = None

-- The type of sets of a function's arguments.
abbrev pub arguments_ty : Ty → Option Ty
arguments_ty (compound2 a_function a b) = Some (compound1 a_set a)
arguments_ty _ = None

-- The type of a partition's parts.
abbrev pub part_ty : Ty → Option Ty
part_ty (compound1 a_partition a) = Some (compound1 a_set a)
part_ty _ = None

-- The type of a function word on two operands.
abbrev pub type_of_word2 : Fun → Ty → Ty → Option Ty
type_of_word2 Fun.Image f x = and_then (join f (compound2 a_function x any_ty)) value_ty
type_of_word2 Fun.PreImage f y = and_then (join f (compound2 a_function any_ty y)) arguments_ty
type_of_word2 Fun.Freq m x = fit m (compound1 a_mset x) int_ty
type_of_word2 Fun.Party x p = and_then (join p (compound1 a_partition x)) part_ty
type_of_word2 Fun.Together s p = and_then (join s (compound1 a_set any_ty)) (λ t. and_then (member_ty t) (λ a. fit p (compound1 a_partition a) bool_ty))
type_of_word2 _ t u = None

-- The type of a function word.
abbrev pub type_of_word : Fun → List Ty → Option Ty
type_of_word f (t ∷ []) = type_of_word1 f t
type_of_word f (t ∷ u ∷ []) = type_of_word2 f t u
type_of_word f _ = None

-- ---- applications and literals

-- The type of a function at an argument, or of a relation at a tuple.
abbrev pub type_of_application : Ty → List Ty → Option Ty
type_of_application (compound2 a_function a b) (x ∷ []) = fit a x b
type_of_application (compound a_relation ts) xs = fit (compound a_relation ts) (compound a_relation (tys_of xs)) bool_ty
type_of_application any_ty xs = Some any_ty
type_of_application _ xs = None

-- The type of a function literal with pairs of this type.
abbrev pub function_ty : Ty → Option Ty
function_ty (compound2 a_tuple a b) = Some (compound2 a_function a b)
function_ty any_ty = Some (compound2 a_function any_ty any_ty)
function_ty _ = None

-- The type of a relation literal with tuples of this type.
abbrev pub relation_ty : Ty → Option Ty
relation_ty (compound a_tuple ts) = Some (compound a_relation ts)
relation_ty any_ty = Some (compound a_relation no_tys)
relation_ty _ = None

-- The type of a partition literal with parts of this type.
abbrev pub partition_ty : Ty → Option Ty
partition_ty (compound1 a_set a) = Some (compound1 a_partition a)
partition_ty any_ty = Some (compound1 a_partition any_ty)
partition_ty _ = None

-- A list literal has the index type int, but `[]` agrees with every matrix.
abbrev pub type_of_list : List Ty → Option Ty
type_of_list [] = Some (compound2 a_matrix any_ty any_ty)
type_of_list (t ∷ ts) = option_map (compound2 a_matrix int_ty) (join_all (t ∷ ts))

-- The fields stand in the order of their names.
abbrev pub record_ty : Names Ty → Ty
record_ty fs = compound (a_record (keys fs)) (tys_of (map (λ f. f.1) fs))

-- The type of an operator or literal, but for an index.
abbrev pub type_of_op : Op → List Ty → Option Ty
type_of_op (unary o) (t ∷ []) = type_of_unary o t
type_of_op (binary o) (t ∷ u ∷ []) = type_of_binary o t u
type_of_op (word f) ts = type_of_word f ts
type_of_op application (t ∷ ts) = type_of_application t ts
type_of_op tuple_literal ts = Some (compound a_tuple (tys_of ts))
type_of_op (record_literal fs) ts = Some (record_ty (by_name (zip fs ts)))
type_of_op set_literal ts = option_map (compound1 a_set) (join_all ts)
type_of_op mset_literal ts = option_map (compound1 a_mset) (join_all ts)
type_of_op function_literal ts = and_then (join_all ts) function_ty
type_of_op relation_literal ts = and_then (join_all ts) relation_ty
type_of_op partition_literal ts = and_then (join_all ts) partition_ty
type_of_op matrix_literal ts = type_of_list ts
type_of_op _ ts = None
