-- What terms made of functions and of partitions offer, by their operands and by what the types say.
use Rattle.std.proofs.Common.{◌≡◌, refl, Bool, false, [], ◌∷◌, Option, Some, None, option_map}
use Rattle.ess_semantics.specs.declared.words.Fun.{Fun}
use Rattle.ess_semantics.specs.Values.{Text, a_function}
use Rattle.ess_semantics.specs.Names.{Names}
use Rattle.ess_semantics.specs.Trees.{word, matrix_literal, mset_literal, Ex, Exs, node_ex, fun1, no_exs, more_exs, no_gens, cond}
use Rattle.ess_semantics.specs.Types.{Ty, compound2}
use Rattle.ess_semantics.specs.Typing.{type_of}
use Rattle.ess_rules_laws.specs.Listings.{each_first, those}
use Rattle.ess_rules_laws.specs.ContainerListings.{of_function, made_listing, range_as_set}
use Rattle.ess_rules_folds.specs.Forms.{written_items}
use Rattle.ess_rules_forms.specs.Forms.{only_operand, both_operands, plain_word, of_plain_word}
use Rattle.ess_rules_listings.specs.ListedTerms.{one_or_two}
use Rattle.ess_rules_listings.specs.Marks.{is_truth, marks_of, arguments_by, has_result, pairs_offered, arguments_offered, sources_offered, pair_offered, results_by}

-- What is made of the types of a function, where it is made of what they say alone.
by_marks : {A : Type 0} (h : Bool → Bool → A) (o : Option Ty)
    → of_function o (λ t u. h (is_truth t) (is_truth u)) ≡ option_map (λ m. h m.0 m.1) (marks_of o)
by_marks h (Some (compound2 a_function t u)) = refl
by_marks h o = refl

module _ (g : Names Ty) (x y : Text) where
  -- The pairs of a function.
  pub pairs_by_marks : (f : Ex)
      → made_listing g x y (fun1 false Fun.ToRelation f) ≡ pairs_offered x f (marks_of (type_of f g))
  pairs_by_marks f = by_marks (λ t u. those x f no_gens ∷ []) (type_of f g)

  -- Its arguments.
  pub arguments_by_marks : (f : Ex)
      → made_listing g x y (fun1 false Fun.Defined f) ≡ arguments_offered x f (marks_of (type_of f g))
  arguments_by_marks f = by_marks (λ t u. arguments_by t x f no_gens ∷ []) (type_of f g)

  -- Those with a result.
  pub pre_image_by_marks : (f b : Ex)
      → made_listing g x y (node_ex false (word Fun.PreImage) (more_exs f (more_exs b no_exs)))
      ≡ sources_offered x f b (marks_of (type_of f g))
  pre_image_by_marks f b = by_marks (λ t u. arguments_by t x f (cond (has_result u x b) no_gens) ∷ []) (type_of f g)

  -- A set made of a literal.
  pub set_by_items : (s : Ex) → made_listing g x y (fun1 false Fun.ToSet s) ≡ option_map (λ es. each_first [] es) (written_items s)
  set_by_items (node_ex false matrix_literal es) = refl
  set_by_items (node_ex false mset_literal es) = refl
  set_by_items s = refl

  -- A set made of a term has no second operand.
  pub set_with_more : (a b : Ex) (es : Exs) → made_listing g x y (node_ex false (word Fun.ToSet) (more_exs a (more_exs b es))) ≡ None
  set_with_more (node_ex false matrix_literal as') b es = refl
  set_with_more (node_ex false mset_literal as') b es = refl
  set_with_more a b es = refl

  -- A word of two terms.
  pair_by_word : (f : Fun) (a b : Ex)
      → made_listing g x y (node_ex false (word f) (more_exs a (more_exs b no_exs))) ≡ pair_offered g x f a b
  pair_by_word Fun.PreImage a b = pre_image_by_marks a b
  pair_by_word Fun.ToSet a b = set_with_more a b no_exs
  pair_by_word Fun.ToRelation a b = refl
  pair_by_word Fun.Defined a b = refl
  pair_by_word Fun.Participants a b = refl
  pair_by_word f a b = refl

  word_without : (f : Fun) → made_listing g x y (node_ex false (word f) no_exs) ≡ None
  word_without Fun.ToRelation = refl
  word_without Fun.Defined = refl
  word_without Fun.PreImage = refl
  word_without Fun.Participants = refl
  word_without Fun.ToSet = refl
  word_without f = refl

  word_with_more : (f : Fun) (a b c : Ex) (es : Exs)
      → made_listing g x y (node_ex false (word f) (more_exs a (more_exs b (more_exs c es)))) ≡ None
  word_with_more Fun.ToRelation a b c es = refl
  word_with_more Fun.Defined a b c es = refl
  word_with_more Fun.PreImage a b c es = refl
  word_with_more Fun.Participants a b c es = refl
  word_with_more Fun.ToSet a b c es = set_with_more a b (more_exs c es)
  word_with_more f a b c es = refl

  -- A word, by its operands.
  pub word_by_operands : (f : Fun) (es : Exs)
      → made_listing g x y (node_ex false (word f) es)
      ≡ one_or_two (only_operand es) (both_operands es) (λ s. made_listing g x y (fun1 false f s))
      (λ p. pair_offered g x f p.0 p.1)
  word_by_operands f no_exs = word_without f
  word_by_operands f (more_exs a no_exs) = refl
  word_by_operands f (more_exs a (more_exs b no_exs)) = pair_by_word f a b
  word_by_operands f (more_exs a (more_exs b (more_exs c es))) = word_with_more f a b c es

-- ---- the set of results

module _ (g : Names Ty) (x : Text) where
  -- By the root.
  pub range_of_word : (e : Ex) → range_as_set g x e ≡ of_plain_word (range_as_set g x) (plain_word e)
  range_of_word (fun1 false Fun.Range f) = refl
  range_of_word (fun1 false h f) = refl
  range_of_word e = refl

  -- By what the type says.
  pub range_by_marks : (f : Ex)
      → range_as_set g x (fun1 false Fun.Range f) ≡ option_map (λ m. results_by m.1 x f) (marks_of (type_of f g))
  range_by_marks f = by_marks (λ t u. results_by u x f) (type_of f g)
