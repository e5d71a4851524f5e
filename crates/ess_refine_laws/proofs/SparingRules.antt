-- What rules answer that keep operands spells no new numbers.
use Rattle.std.proofs.Common.{◌≡◌, refl, sym, subst, ℕ, Bool, true, false, ◌||◌, if◌then◌else◌, [], ◌++◌, ℤ, pos, Option, Some, None}
use Rattle.ess_semantics.specs.declared.words.Op1.{Op1}
use Rattle.ess_semantics.specs.declared.words.Op2.{Op2}
use Rattle.ess_semantics.specs.declared.words.Fun.{Fun}
use Rattle.ess_semantics.specs.Values.{Text}
use Rattle.ess_semantics.specs.Names.{Names}
use Rattle.ess_semantics.specs.Trees.{Op, unary, binary, word, tuple_literal, record_literal, matrix_literal, name_pat, Pat, Ex, number_ex, truth_ex, name_ex, node_ex, matrix_ex, comp_ex, cell_ex, seen_ex, ex1, ex2, fun1, no_exs, more_exs, Gens, no_gens, from, cond}
use Rattle.ess_semantics.specs.Types.{Ty}
use Rattle.ess_semantics.specs.Typing.{type_of}
use Rattle.ess_semantics.specs.Constants.{operand_count, counted_op, drops_items, tree_constants, operand_constants, gens_constants}
use Rattle.ess_semantics.proofs.Tests.{and-both}
use Rattle.ess_rules_laws.specs.FoldRules.{fold_nothing, fold_bare, fold_alone}
use Rattle.ess_rules_laws.specs.LooseRules.{fold_loosely}
use Rattle.ess_rules_laws.specs.InclusionRules.{both_sets, both_msets, both_functions, every, unequal, included_turned, included_strictly, included_members, included_often, equal_members, equal_pairs}
use Rattle.ess_rules_laws.specs.MembershipRules.{member_term, member_combined, is_asked, member_of, member_changed}
use Rattle.ess_rules_laws.specs.SizeRules.{is_counted, size_term, frequency_term, together_term}
use Rattle.ess_refine_laws.proofs.ConstantsStay.{All, all-left, all-right, all-both}

-- How often a value is in a container.
abbrev how_often : Ex → Ex → Ex
how_often m x = node_ex false (word Fun.Freq) (more_exs m (more_exs x no_exs))

-- Inside of a fold a tree spells no more than elsewhere.
counted-inside : (op : Op) (n : ℕ) → counted_op true op n ≡ []
counted-inside tuple_literal n = refl
counted-inside (record_literal fs) n = refl
counted-inside _ n = refl

module _ (q : ℤ → Bool) (o : q (pos 0) ≡ true) (i : q (pos 1) ≡ true) where
  -- All numbers of a tree pass.
  abbrev pub A : Bool → Ex → Type 0
  A m e = All q (tree_constants m e)

  -- So do those of what a rule answers.
  abbrev pub Answers : Bool → Option Ex → Type 0
  Answers m None = Unit {0}
  Answers m (Some f) = A m f

  when : (c : Bool) (m : Bool) (f : Ex) → A m f → Answers m (if c then Some f else None)
  when true m f h = h
  when false m f h = tt

  uncounted : (m : Bool) → All q (if m then [] else [])
  uncounted true = refl
  uncounted false = refl

  -- Of one operand, and of two.
  one-of : (m b : Bool) (op : Op) (a : Ex) → A m (node_ex b op (more_exs a no_exs)) → A (drops_items op) a
  one-of m b op a h =
      all-left q (tree_constants (drops_items op) a) [] (all-right q (counted_op m op 1) (operand_constants (drops_items op)
      (more_exs a no_exs)) h)

  two-of : (m b : Bool) (op : Op) (a c : Ex) → A m (node_ex b op (more_exs a (more_exs c no_exs))) →
      A (drops_items op) a × A (drops_items op) c
  two-of m b op a c h =
      let k = all-right q (counted_op m op 2) (operand_constants (drops_items op) (more_exs a (more_exs c no_exs))) h in (
        all-left q (tree_constants (drops_items op) a) (operand_constants (drops_items op) (more_exs c no_exs)) k,
        all-left q (tree_constants (drops_items op) c) []
            (all-right q (tree_constants (drops_items op) a) (operand_constants (drops_items op) (more_exs c no_exs)) k),
      )

  of-one : (m b : Bool) (op : Op) (a : Ex) → All q (counted_op m op 1) → A (drops_items op) a → A m (node_ex b op (more_exs a no_exs))
  of-one m b op a c h = all-both q (counted_op m op 1) (operand_constants (drops_items op) (more_exs a no_exs)) c
      (all-both q (tree_constants (drops_items op) a) [] h refl)

  of-two : (m b : Bool) (op : Op) (a c : Ex) → All q (counted_op m op 2) → A (drops_items op) a → A (drops_items op) c →
      A m (node_ex b op (more_exs a (more_exs c no_exs)))
  of-two m b op a c k h j = all-both q (counted_op m op 2) (operand_constants (drops_items op) (more_exs a (more_exs c no_exs))) k
      (all-both q (tree_constants (drops_items op) a) (operand_constants (drops_items op) (more_exs c no_exs)) h
      (all-both q (tree_constants (drops_items op) c) [] j refl))

  -- A comprehension.
  of-comp : (m : Bool) (e : Ex) (gs : Gens) → A false e → All q (gens_constants gs) → A m (comp_ex e gs)
  of-comp m e gs h k = all-both q (tree_constants false e) (gens_constants gs) h k

  comp-of : (m : Bool) (e : Ex) (gs : Gens) → A m (comp_ex e gs) → A false e × All q (gens_constants gs)
  comp-of m e gs h =
      (all-left q (tree_constants false e) (gens_constants gs) h, all-right q (tree_constants false e) (gens_constants gs) h)

  one-source : (p : Pat) (s : Ex) (hs : Gens) → A false s → All q (gens_constants hs) → All q (gens_constants (from p s hs))
  one-source p s hs h k = all-both q (tree_constants false s) (gens_constants hs) h k

  -- A quantifier over a term, and a comparison.
  of-every : (m : Bool) (x : Text) (s body : Ex) → A false s → A false body → A m (every x s body)
  of-every m x s body h k =
      of-one m true (word Fun.And) (comp_ex body (from (name_pat x) s no_gens)) (uncounted m)
      (of-comp true body (from (name_pat x) s no_gens) k (one-source (name_pat x) s no_gens h refl))

  inside : (m : Bool) (e : Ex) → A false e → A m e
  inside false e h = h
  inside true (number_ex n) h = h
  inside true (truth_ex b) h = h
  inside true (name_ex a) h = h
  inside true (node_ex b op es) h =
      subst (λ l. All q (l ++ operand_constants (drops_items op) es)) (sym (counted-inside op (operand_count es)))
      (all-right q (counted_op false op (operand_count es)) (operand_constants (drops_items op) es) h)
  inside true (matrix_ex es d) h = h
  inside true (comp_ex e gs) h = h
  inside true (cell_ex b n es) h = h
  inside true (seen_ex r d ns es) h = h

  -- The source of a set made of it.
  of-set : (p : Pat) (s : Ex) (hs : Gens) → All q (gens_constants (from p (fun1 false Fun.ToSet s) hs)) → All q (gens_constants (from p s hs))
  of-set p s hs k = one-source p s hs
      (one-of false false (word Fun.ToSet) s (all-left q (tree_constants false (fun1 false Fun.ToSet s)) (gens_constants hs) k))
      (all-right q (tree_constants false (fun1 false Fun.ToSet s)) (gens_constants hs) k)

  -- ---- each rule

  pub nothing : (m : Bool) (e : Ex) → A m e → Answers m (fold_nothing e)
  nothing m (fun1 true Fun.And (node_ex false matrix_literal no_exs)) h = refl
  nothing m (fun1 true Fun.Or (node_ex false matrix_literal no_exs)) h = refl
  nothing m (fun1 false Fun.Sum (node_ex false matrix_literal no_exs)) h = and-both (q (pos 0)) true o refl
  nothing m (fun1 false Fun.Product (node_ex false matrix_literal no_exs)) h = and-both (q (pos 1)) true i refl
  nothing m _ h = tt

  pub bare : (m : Bool) (e : Ex) → A m e → Answers m (fold_bare e)
  bare m (fun1 true Fun.And (comp_ex e no_gens)) h = inside m e (comp-of true e no_gens (one-of m true (word Fun.And) (comp_ex e no_gens) h)).0
  bare m (fun1 true Fun.Or (comp_ex e no_gens)) h = inside m e (comp-of true e no_gens (one-of m true (word Fun.Or) (comp_ex e no_gens) h)).0
  bare m (fun1 false Fun.Sum (comp_ex e no_gens)) h =
      inside m e (comp-of true e no_gens (one-of m false (word Fun.Sum) (comp_ex e no_gens) h)).0
  bare m (fun1 false Fun.Product (comp_ex e no_gens)) h =
      inside m e (comp-of true e no_gens (one-of m false (word Fun.Product) (comp_ex e no_gens) h)).0
  bare m _ h = tt

  pub alone : (m : Bool) (e : Ex) → A m e → Answers m (fold_alone e)
  alone m (fun1 true Fun.And (comp_ex e (cond c no_gens))) h =
      let k = comp-of true e (cond c no_gens) (one-of m true (word Fun.And) (comp_ex e (cond c no_gens)) h) in
      of-two m true (binary Op2.Implies) c e (uncounted m) (all-left q (tree_constants false c) [] k.1) k.0
  alone m (fun1 true Fun.Or (comp_ex e (cond c no_gens))) h =
      let k = comp-of true e (cond c no_gens) (one-of m true (word Fun.Or) (comp_ex e (cond c no_gens)) h) in
      of-two m true (binary Op2.And) c e (uncounted m) (all-left q (tree_constants false c) [] k.1) k.0
  alone m _ h = tt

  pub loosely : (m : Bool) (e : Ex) → A m e → Answers m (fold_loosely e)
  loosely m (fun1 true Fun.And (comp_ex e (from p (fun1 false Fun.ToSet s) hs))) h =
      let k = comp-of true e (from p (fun1 false Fun.ToSet s) hs) (one-of m true (word Fun.And) (comp_ex e (from p
      (fun1 false Fun.ToSet s) hs)) h) in
      of-one m true (word Fun.And) (comp_ex e (from p s hs)) (uncounted m) (of-comp true e (from p s hs) k.0 (of-set p s hs k.1))
  loosely m (fun1 true Fun.Or (comp_ex e (from p (fun1 false Fun.ToSet s) hs))) h =
      let k = comp-of true e (from p (fun1 false Fun.ToSet s) hs) (one-of m true (word Fun.Or) (comp_ex e (from p
      (fun1 false Fun.ToSet s) hs)) h) in
      of-one m true (word Fun.Or) (comp_ex e (from p s hs)) (uncounted m) (of-comp true e (from p s hs) k.0 (of-set p s hs k.1))
  loosely m _ h = tt

  pub apart : (m : Bool) (e : Ex) → A m e → Answers m (unequal e)
  apart m (ex2 true Op2.Ne a b) h =
      let k = two-of m true (binary Op2.Ne) a b h in
      of-one m true (unary Op1.Not) (ex2 true Op2.Eq a b) (uncounted m) (of-two false true (binary Op2.Eq) a b refl k.0 k.1)
  apart m _ h = tt

  pub turns : (m : Bool) (e : Ex) → A m e → Answers m (included_turned e)
  turns m (ex2 true Op2.SupsetEq a b) h =
      let k = two-of m true (binary Op2.SupsetEq) a b h in of-two m true (binary Op2.SubsetEq) b a (uncounted m) k.1 k.0
  turns m (ex2 true Op2.Supset a b) h =
      let k = two-of m true (binary Op2.Supset) a b h in of-two m true (binary Op2.Subset) b a (uncounted m) k.1 k.0
  turns m _ h = tt

  pub strict : (g : Names Ty) (x : Text) (m : Bool) (e : Ex) → A m e → Answers m (included_strictly g x e)
  strict g x m (ex2 true Op2.Subset a b) h =
      let k = two-of m true (binary Op2.Subset) a b h in
      when (both_sets (type_of a g) (type_of b g) || both_msets (type_of a g) (type_of b g)) m
      (ex2 true Op2.And (ex2 true Op2.SubsetEq a b) (ex1 true Op1.Not (ex2 true Op2.SubsetEq b a)))
      (of-two m true (binary Op2.And) (ex2 true Op2.SubsetEq a b) (ex1 true Op1.Not (ex2 true Op2.SubsetEq b a)) (uncounted m)
      (of-two false true (binary Op2.SubsetEq) a b refl k.0 k.1)
      (of-one false true (unary Op1.Not) (ex2 true Op2.SubsetEq b a) refl (of-two false true (binary Op2.SubsetEq) b a refl k.1 k.0)))
  strict g x m _ h = tt

  -- That the name is a member.
  of-member : (x : Text) (b : Ex) → A false b → A false (ex2 true Op2.Member (name_ex x) b)
  of-member x b h = of-two false true (binary Op2.Member) (name_ex x) b refl refl h

  pub members : (g : Names Ty) (x : Text) (m : Bool) (e : Ex) → A m e → Answers m (included_members g x e)
  members g x m (ex2 true Op2.SubsetEq a b) h =
      let k = two-of m true (binary Op2.SubsetEq) a b h in
      when (both_sets (type_of a g) (type_of b g)) m (every x a (ex2 true Op2.Member (name_ex x) b))
      (of-every m x a (ex2 true Op2.Member (name_ex x) b) k.0 (of-member x b k.1))
  members g x m _ h = tt

  pub often : (g : Names Ty) (x : Text) (m : Bool) (e : Ex) → A m e → Answers m (included_often x e)
  often g x m (ex2 true Op2.SubsetEq a b) h =
      let k = two-of m true (binary Op2.SubsetEq) a b h in
      of-every m x a (ex2 true Op2.Le (how_often a (name_ex x)) (how_often b (name_ex x))) k.0
      (of-two false true (binary Op2.Le) (how_often a (name_ex x)) (how_often b (name_ex x)) refl
      (of-two false false (word Fun.Freq) a (name_ex x) refl k.0 refl) (of-two false false (word Fun.Freq) b (name_ex x) refl k.1 refl))
  often g x m _ h = tt

  pub same_members : (g : Names Ty) (x : Text) (m : Bool) (e : Ex) → A m e → Answers m (equal_members g x e)
  same_members g x m (ex2 true Op2.Eq a b) h =
      let k = two-of m true (binary Op2.Eq) a b h in
      when (both_sets (type_of a g) (type_of b g)) m
      (ex2 true Op2.And (every x a (ex2 true Op2.Member (name_ex x) b)) (every x b (ex2 true Op2.Member (name_ex x) a)))
      (of-two m true (binary Op2.And) (every x a (ex2 true Op2.Member (name_ex x) b)) (every x b (ex2 true Op2.Member (name_ex x) a))
      (uncounted m) (of-every false x a (ex2 true Op2.Member (name_ex x) b) k.0 (of-member x b k.1))
      (of-every false x b (ex2 true Op2.Member (name_ex x) a) k.1 (of-member x a k.0)))
  same_members g x m _ h = tt

  abbrev pairs : Ex → Ex
  pairs a = fun1 false Fun.ToRelation a

  pub same_pairs : (g : Names Ty) (x : Text) (m : Bool) (e : Ex) → A m e → Answers m (equal_pairs g x e)
  same_pairs g x m (ex2 true Op2.Eq a b) h =
      let k = two-of m true (binary Op2.Eq) a b h in
      when (both_functions (type_of a g) (type_of b g)) m
      (ex2 true Op2.And (every x a (ex2 true Op2.Member (name_ex x) (pairs b))) (every x b (ex2 true Op2.Member (name_ex x) (pairs a))))
      (of-two m true (binary Op2.And) (every x a (ex2 true Op2.Member (name_ex x) (pairs b)))
      (every x b (ex2 true Op2.Member (name_ex x) (pairs a))) (uncounted m)
      (of-every false x a (ex2 true Op2.Member (name_ex x) (pairs b)) k.0
      (of-member x (pairs b) (of-one false false (word Fun.ToRelation) b refl k.1)))
      (of-every false x b (ex2 true Op2.Member (name_ex x) (pairs a)) k.1
      (of-member x (pairs a) (of-one false false (word Fun.ToRelation) a refl k.0))))
  same_pairs g x m _ h = tt

  pub combined : (m : Bool) (e : Ex) → A m e → Answers m (member_combined e)
  combined m (ex2 true Op2.Member x (ex2 false Op2.Union a b)) h =
      let k = two-of m true (binary Op2.Member) x (ex2 false Op2.Union a b) h in
      let l = two-of false false (binary Op2.Union) a b k.1 in
      of-two m true (binary Op2.Or) (ex2 true Op2.Member x a) (ex2 true Op2.Member x b) (uncounted m)
      (of-two false true (binary Op2.Member) x a refl k.0 l.0) (of-two false true (binary Op2.Member) x b refl k.0 l.1)
  combined m (ex2 true Op2.Member x (ex2 false Op2.Intersect a b)) h =
      let k = two-of m true (binary Op2.Member) x (ex2 false Op2.Intersect a b) h in
      let l = two-of false false (binary Op2.Intersect) a b k.1 in
      of-two m true (binary Op2.And) (ex2 true Op2.Member x a) (ex2 true Op2.Member x b) (uncounted m)
      (of-two false true (binary Op2.Member) x a refl k.0 l.0) (of-two false true (binary Op2.Member) x b refl k.0 l.1)
  combined m (ex2 true Op2.Member x (ex2 false Op2.Minus a b)) h =
      let k = two-of m true (binary Op2.Member) x (ex2 false Op2.Minus a b) h in
      let l = two-of false false (binary Op2.Minus) a b k.1 in
      of-two m true (binary Op2.And) (ex2 true Op2.Member x a) (ex1 true Op1.Not (ex2 true Op2.Member x b)) (uncounted m)
      (of-two false true (binary Op2.Member) x a refl k.0 l.0)
      (of-one false true (unary Op1.Not) (ex2 true Op2.Member x b) refl (of-two false true (binary Op2.Member) x b refl k.0 l.1))
  combined m _ h = tt

  pub member : (x : Text) (m : Bool) (e : Ex) → A m e → Answers m (member_term x e)
  member x m (ex2 true Op2.Member a s) h =
      let k = two-of m true (binary Op2.Member) a s h in
      of-one m true (word Fun.Or) (comp_ex (ex2 true Op2.Eq (name_ex x) a) (from (name_pat x) s no_gens)) (uncounted m)
      (of-comp true (ex2 true Op2.Eq (name_ex x) a) (from (name_pat x) s no_gens)
      (of-two false true (binary Op2.Eq) (name_ex x) a refl refl k.0) (one-source (name_pat x) s no_gens k.1 refl))
  member x m _ h = tt

  -- In s, where both terms spell no more.
  member-of : (g : Names Ty) (x : Text) (m : Bool) (a s : Ex) → A false a → A false s → Answers m (member_of g x a s)
  member-of g x m a s k l = go (is_asked (type_of s g))
    where
      go : (c : Bool) → Answers m (if c then Some (ex2 true Op2.Member a s) else member_term x (ex2 true Op2.Member a s))
      go true = of-two m true (binary Op2.Member) a s (uncounted m) k l
      go false = member x m (ex2 true Op2.Member a s) (of-two m true (binary Op2.Member) a s (uncounted m) k l)

  pub changed : (g : Names Ty) (x : Text) (m : Bool) (e : Ex) → A m e → Answers m (member_changed g x e)
  changed g x m (ex2 true Op2.Member a (fun1 false Fun.ToSet s)) h =
      let k = two-of m true (binary Op2.Member) a (fun1 false Fun.ToSet s) h in
      member-of g x m a s k.0 (one-of false false (word Fun.ToSet) s k.1)
  changed g x m (ex2 true Op2.Member a (fun1 false Fun.ToMSet s)) h =
      let k = two-of m true (binary Op2.Member) a (fun1 false Fun.ToMSet s) h in
      member-of g x m a s k.0 (one-of false false (word Fun.ToMSet) s k.1)
  changed g x m (ex2 true Op2.Member a (fun1 false Fun.Parts s)) h =
      let k = two-of m true (binary Op2.Member) a (fun1 false Fun.Parts s) h in
      member-of g x m a s k.0 (one-of false false (word Fun.Parts) s k.1)
  changed g x m _ h = tt

  one-number : A false (number_ex (pos 1))
  one-number = and-both (q (pos 1)) true i refl

  pub sized : (g : Names Ty) (x : Text) (m : Bool) (e : Ex) → A m e → Answers m (size_term g x e)
  sized g x m (ex1 false Op1.Bar s) h =
      when (is_counted (type_of s g)) m (fun1 false Fun.Sum (comp_ex (number_ex (pos 1)) (from (name_pat x) s no_gens)))
      (of-one m false (word Fun.Sum) (comp_ex (number_ex (pos 1)) (from (name_pat x) s no_gens)) (uncounted m)
      (of-comp true (number_ex (pos 1)) (from (name_pat x) s no_gens) one-number
      (one-source (name_pat x) s no_gens (one-of m false (unary Op1.Bar) s h) refl)))
  sized g x m _ h = tt

  pub counted : (x : Text) (m : Bool) (e : Ex) → A m e → Answers m (frequency_term x e)
  counted x m (node_ex false (word Fun.Freq) (more_exs s (more_exs a no_exs))) h =
      let k = two-of m false (word Fun.Freq) s a h in
      of-one m false (word Fun.Sum) (comp_ex (number_ex (pos 1)) (from (name_pat x) s (cond (ex2 true Op2.Eq (name_ex x) a) no_gens)))
      (uncounted m)
      (of-comp true (number_ex (pos 1)) (from (name_pat x) s (cond (ex2 true Op2.Eq (name_ex x) a) no_gens)) one-number
      (one-source (name_pat x) s (cond (ex2 true Op2.Eq (name_ex x) a) no_gens) k.0
      (all-both q (tree_constants false (ex2 true Op2.Eq (name_ex x) a)) [] (of-two false true (binary Op2.Eq) (name_ex x) a refl refl k.1)
      refl)))
  counted x m _ h = tt

  pub one-part : (x : Text) (m : Bool) (e : Ex) → A m e → Answers m (together_term x e)
  one-part x m (node_ex true (word Fun.Together) (more_exs s (more_exs p no_exs))) h =
      let k = two-of m true (word Fun.Together) s p h in
      of-one m true (word Fun.Or) (comp_ex (ex2 true Op2.SubsetEq s (name_ex x)) (from (name_pat x) (fun1 false Fun.Parts p) no_gens))
      (uncounted m)
      (of-comp true (ex2 true Op2.SubsetEq s (name_ex x)) (from (name_pat x) (fun1 false Fun.Parts p) no_gens)
      (of-two false true (binary Op2.SubsetEq) s (name_ex x) refl k.0 refl)
      (one-source (name_pat x) (fun1 false Fun.Parts p) no_gens (of-one false false (word Fun.Parts) p refl k.1) refl))
  one-part x m _ h = tt
