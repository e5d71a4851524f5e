-- Readable trees: those that the rules of the grammar give for some text whose words are all of the subset. So no number in
-- them is below 0 or above 2^63 - 1, names and fields are name tokens, each list has a length that the grammar can give, a
-- node's mark is that of a tree as it is read, a record's domain has its fields by name, and there is no cell and no view.
use Rattle.std.specs.Prelude.{◌≡◌, ◌^◌, Bool, true, false, ◌&&◌, not, List, [], ◌∷◌, ℤ, pos, negsuc, IsTrue, nat_lt}
use Rattle.std.specs.Option.{is_some}
use Rattle.std.specs.Ordering.{is_le}
use Rattle.std.specs.Str.{bytes_eq}
use Rattle.ess_semantics.specs.Values.{Text}
use Rattle.ess_semantics.specs.Order.{order_text}
use Rattle.ess_semantics.specs.Trees.{Step, by_value, Op, unary, binary, index, application, tuple_literal, set_literal, mset_literal, function_literal, relation_literal, partition_literal, matrix_literal, record_literal, Ends, one_value, both_ends, low_end, high_end, Mark, flag, valued, Pat, Pats, name_pat, tuple_pat, no_pats, more_pats, Ex, Exs, number_ex, truth_ex, name_ex, node_ex, matrix_ex, comp_ex, cell_ex, seen_ex, no_exs, more_exs, Gens, no_gens, over, from, cond, Dom, bool_dom, int_dom, name_dom, tuple_dom, record_dom, matrix_dom, set_dom, mset_dom, function_dom, relation_dom, partition_dom, Doms, no_doms, more_doms, Stm, given, given_enum, let_ex, let_dom, let_enum, let_unnamed, needs, find, such_that, minimise, maximise, is_truth_op}
use Rattle.ess_semantics.specs.Names.{look_by}
use Rattle.ess_grammar.specs.Words.{name, words, is_outside}
use Rattle.ess_grammar.specs.Tokens.{is_name}

-- ---- names and numbers

-- Whether the text is a name token of a text that is read: a name that is no reserved word and no word outside the subset.
abbrev pub is_name_token : Text → Bool
is_name_token a = is_name a && (not (is_some (look_by bytes_eq words a)) && not (is_outside (name a)))

-- Whether all are.
abbrev pub are_name_tokens : List Text → Bool
are_name_tokens [] = true
are_name_tokens (a ∷ ns) = is_name_token a && are_name_tokens ns

-- Whether the names stand in the order of their bytes. One name may stand several times.
abbrev pub names_rise : List Text → Bool
names_rise [] = true
names_rise (a ∷ []) = true
names_rise (a ∷ b ∷ ns) = is_le (order_text a b) && names_rise (b ∷ ns)

-- Whether the number is one that a number token has.
abbrev pub is_number_token : ℤ → Bool
is_number_token (pos n) = nat_lt n (2 ^ 63)
is_number_token (negsuc n) = false

-- ---- lengths

-- Whether there is one or more.
abbrev pub some_exs : Exs → Bool
some_exs (more_exs e es) = true
some_exs no_exs = false

-- Whether there is one or more.
abbrev pub some_doms : Doms → Bool
some_doms (more_doms d ds) = true
some_doms no_doms = false

-- Whether there are two or more.
abbrev pub several_doms : Doms → Bool
several_doms (more_doms c (more_doms d ds)) = true
several_doms _ = false

-- Whether there are two or more.
abbrev pub several_pats : Pats → Bool
several_pats (more_pats p (more_pats q ps)) = true
several_pats _ = false

-- Whether there is one or more.
abbrev pub some_gens : Gens → Bool
some_gens no_gens = false
some_gens _ = true

-- Whether there is one or more.
abbrev pub some_names : List Text → Bool
some_names (a ∷ ns) = true
some_names [] = false

-- Whether there is a name for each operand.
abbrev pub fit_fields : List Text → Exs → Bool
fit_fields [] no_exs = true
fit_fields (a ∷ ns) (more_exs e es) = fit_fields ns es
fit_fields _ _ = false

-- Whether there is a name for each domain.
abbrev pub fit_domains : List Text → Doms → Bool
fit_domains [] no_doms = true
fit_domains (a ∷ ns) (more_doms d ds) = fit_domains ns ds
fit_domains _ _ = false

-- Whether there is a step by value for each operand.
abbrev pub fit_steps : List Step → Exs → Bool
fit_steps [] no_exs = true
fit_steps (by_value ∷ ss) (more_exs e es) = fit_steps ss es
fit_steps _ _ = false

-- Whether there is a number for each attribute that has one.
abbrev pub fit_marks : List Mark → Exs → Bool
fit_marks [] no_exs = true
fit_marks (flag k ∷ ms) es = fit_marks ms es
fit_marks (valued k ∷ ms) (more_exs e es) = fit_marks ms es
fit_marks _ _ = false

-- Whether there are the bounds of all ranges.
abbrev pub fit_ranges : List Ends → Exs → Bool
fit_ranges [] no_exs = true
fit_ranges (one_value ∷ rs) (more_exs e es) = fit_ranges rs es
fit_ranges (both_ends ∷ rs) (more_exs e (more_exs f es)) = fit_ranges rs es
fit_ranges (low_end ∷ rs) (more_exs e es) = fit_ranges rs es
fit_ranges (high_end ∷ rs) (more_exs e es) = fit_ranges rs es
fit_ranges _ _ = false

-- Whether all are pairs, as in a function literal.
abbrev pub are_pairs : Exs → Bool
are_pairs no_exs = true
are_pairs (more_exs (node_ex b tuple_literal (more_exs x (more_exs y no_exs))) es) = are_pairs es
are_pairs _ = false

-- Whether an operator's node may have these operands.
abbrev pub fit_operands : Op → Exs → Bool
fit_operands (unary o) (more_exs a no_exs) = true
fit_operands (binary o) (more_exs a (more_exs b no_exs)) = true
fit_operands (Op.word f) (more_exs a es) = true
fit_operands (index (s ∷ ss)) (more_exs a es) = fit_steps (s ∷ ss) es
fit_operands application (more_exs a (more_exs b es)) = true
fit_operands tuple_literal (more_exs a es) = true
fit_operands set_literal es = true
fit_operands mset_literal es = true
fit_operands relation_literal es = true
fit_operands partition_literal es = true
fit_operands matrix_literal es = true
fit_operands function_literal es = are_pairs es
fit_operands (record_literal (a ∷ ns)) es = are_name_tokens (a ∷ ns) && fit_fields (a ∷ ns) es
fit_operands _ _ = false

-- ---- trees

abbrev mutual
  -- A pattern of the grammar.
  pub ReadablePat : Pat → Type 0
  ReadablePat (name_pat a) = IsTrue (is_name_token a)
  ReadablePat (tuple_pat ps) = IsTrue (several_pats ps) × ReadablePats ps

  -- The same of several.
  pub ReadablePats : Pats → Type 0
  ReadablePats no_pats = Unit {0}
  ReadablePats (more_pats p ps) = ReadablePat p × ReadablePats ps

abbrev mutual
  -- An expression of the grammar.
  pub ReadableEx : Ex → Type 0
  ReadableEx (number_ex n) = IsTrue (is_number_token n)
  ReadableEx (truth_ex b) = Unit {0}
  ReadableEx (name_ex a) = IsTrue (is_name_token a)
  ReadableEx (node_ex b op es) = (b ≡ is_truth_op op) × IsTrue (fit_operands op es) × ReadableExs es
  ReadableEx (matrix_ex es d) = IsTrue (some_exs es) × ReadableExs es × ReadableDom d
  ReadableEx (comp_ex e gs) = ReadableEx e × IsTrue (some_gens gs) × ReadableGens gs
  ReadableEx (cell_ex b n es) = ⊥
  ReadableEx (seen_ex r d ns es) = ⊥

  -- The same of several.
  pub ReadableExs : Exs → Type 0
  ReadableExs no_exs = Unit {0}
  ReadableExs (more_exs e es) = ReadableEx e × ReadableExs es

  -- The same of generators and conditions.
  pub ReadableGens : Gens → Type 0
  ReadableGens no_gens = Unit {0}
  ReadableGens (over p d gs) = ReadablePat p × ReadableDom d × ReadableGens gs
  ReadableGens (from p e gs) = ReadablePat p × ReadableEx e × ReadableGens gs
  ReadableGens (cond e gs) = ReadableEx e × ReadableGens gs

  -- A domain of the grammar.
  pub ReadableDom : Dom → Type 0
  ReadableDom bool_dom = Unit {0}
  ReadableDom (int_dom rs es) = IsTrue (fit_ranges rs es) × ReadableExs es
  ReadableDom (name_dom a) = IsTrue (is_name_token a)
  ReadableDom (tuple_dom ds) = IsTrue (some_doms ds) × ReadableDoms ds
  ReadableDom (record_dom ns ds) =
      IsTrue (some_doms ds && (are_name_tokens ns && fit_domains ns ds)) × IsTrue (names_rise ns) × ReadableDoms ds
  ReadableDom (matrix_dom ds d) = IsTrue (some_doms ds) × ReadableDoms ds × ReadableDom d
  ReadableDom (set_dom ms es d) = IsTrue (fit_marks ms es) × ReadableExs es × ReadableDom d
  ReadableDom (mset_dom ms es d) = IsTrue (fit_marks ms es) × ReadableExs es × ReadableDom d
  ReadableDom (function_dom ms es c d) = IsTrue (fit_marks ms es) × ReadableExs es × ReadableDom c × ReadableDom d
  ReadableDom (relation_dom ms es ds) = IsTrue (fit_marks ms es && several_doms ds) × ReadableExs es × ReadableDoms ds
  ReadableDom (partition_dom ms es d) = IsTrue (fit_marks ms es) × ReadableExs es × ReadableDom d

  -- The same of several.
  pub ReadableDoms : Doms → Type 0
  ReadableDoms no_doms = Unit {0}
  ReadableDoms (more_doms d ds) = ReadableDom d × ReadableDoms ds

-- A statement of the grammar.
abbrev pub ReadableStm : Stm → Type 0
ReadableStm (given a d) = IsTrue (is_name_token a) × ReadableDom d
ReadableStm (given_enum a) = IsTrue (is_name_token a)
ReadableStm (let_ex a e) = IsTrue (is_name_token a) × ReadableEx e
ReadableStm (let_dom a d) = IsTrue (is_name_token a) × ReadableDom d
ReadableStm (let_enum a ns) = IsTrue (is_name_token a && (some_names ns && are_name_tokens ns))
ReadableStm (let_unnamed a e) = IsTrue (is_name_token a) × ReadableEx e
ReadableStm (needs e) = ReadableEx e
ReadableStm (find a d) = IsTrue (is_name_token a) × ReadableDom d
ReadableStm (such_that e) = ReadableEx e
ReadableStm (minimise e) = ReadableEx e
ReadableStm (maximise e) = ReadableEx e

-- The statements of a specification.
abbrev pub ReadableStms : List Stm → Type 0
ReadableStms [] = Unit {0}
ReadableStms (s ∷ ss) = ReadableStm s × ReadableStms ss

-- Whether a statement may stand in a file of lettings.
abbrev pub is_plain_letting : Stm → Bool
is_plain_letting (let_ex a e) = true
is_plain_letting (let_enum a ns) = true
is_plain_letting s = false

-- The lettings of a file.
abbrev pub ReadableLettings : List Stm → Type 0
ReadableLettings [] = Unit {0}
ReadableLettings (s ∷ ss) = IsTrue (is_plain_letting s) × ReadableStm s × ReadableLettings ss
