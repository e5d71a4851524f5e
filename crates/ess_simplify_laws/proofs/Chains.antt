-- The rule, used one time after the other at parts, leads to the simplified tree.
use Rattle.std.proofs.Common.{◌≡◌, refl, sym, ap, ◌∙◌, subst, Bool, true, false, if◌then◌else◌, List, [], ◌∷◌, Option, Some, None}
use Rattle.std.specs.Prelude.{is_some}
use Rattle.ess_semantics.specs.declared.words.Op1.{Op1}
use Rattle.ess_semantics.specs.declared.words.Op2.{Op2}
use Rattle.ess_semantics.specs.Values.{Value, items_of}
use Rattle.ess_semantics.specs.Names.{Names}
use Rattle.ess_semantics.specs.Trees.{Op, unary, binary, word, index, application, tuple_literal, set_literal, mset_literal, function_literal, relation_literal, partition_literal, matrix_literal, record_literal, Ex, Exs, number_ex, truth_ex, name_ex, node_ex, matrix_ex, comp_ex, cell_ex, seen_ex, no_exs, more_exs, Gens, no_gens, over, from, cond, Dom, Doms, bool_dom, int_dom, name_dom, tuple_dom, record_dom, matrix_dom, set_dom, mset_dom, function_dom, relation_dom, partition_dom, no_doms, more_doms, ex1, ex2}
use Rattle.ess_semantics.specs.Types.{Ty, type_of_dom, bind_types}
use Rattle.ess_semantics.specs.Typing.{source_ty}
use Rattle.ess_semantics.specs.Operators.{connective}
use Rattle.ess_semantics.specs.Meaning.{meaning, members_in, domain_of}
use Rattle.ess_semantics.specs.Contexts.{In, Ins, InGens, InDom, InDoms, hole, in_operand, in_item, in_index_domain, in_body, in_generators, in_cell_index, in_view_domain, in_view_index, in_first, in_later, in_generator_domain, behind_over, in_source, behind_from, in_condition, behind_condition, in_bound, in_component, in_field, in_index, in_element, in_set_number, in_set_member, in_mset_number, in_mset_member, in_function_number, in_argument, in_result, in_relation_number, in_relation_component, in_partition_number, in_partition_member, in_first_domain, in_later_domain, fill, fill_exs, fill_gens, fill_dom, fill_doms, Each, EachOf, EachIn}
use Rattle.ess_semantics.specs.NamesAt.{names_behind}
use Rattle.ess_semantics.specs.StaysAt.{StaysBehind, StaysAt, StaysAtExs, StaysAtGens, StaysAtDom, StaysAtDoms}
use Rattle.ess_rules_laws.specs.Rewriting.{Rewritten, as_it_was, rewritten_at}
use Rattle.ess_simplify_laws.specs.declared.words.Outcome.{Outcome}
use Rattle.ess_simplify_laws.specs.Simplifying.{said, denied, outcome, left, simpler_unary, simpler_binary, simpler_node, simplified, all_simplified, gens_simplified, dom_simplified, doms_simplified}
use Rattle.ess_simplify_laws.specs.SimplerRoots.{simpler_root, written}
use Rattle.ess_simplify_laws.specs.Laws.{Anywhere, IsSimplerRoot}

-- The rule leads from the first tree to the second one.
abbrev pub Leads : Names Ty → Ex → Ex → Type 0
Leads = Rewritten Anywhere IsSimplerRoot

-- ---- nothing is asked of envs

each : {A : Type 0} (xs : List A) → Each xs (λ x. Unit {0})
each [] = tt
each (x ∷ xs) = (tt, each xs)

each-of : (o : Option (List Value)) → EachOf o (λ v. Unit {0})
each-of None = tt
each-of (Some vs) = each vs

each-in : (o : Option Value) → EachIn o (λ v. Unit {0})
each-in None = tt
each-in (Some s) = each (items_of s)

behind : (gs : Gens) (g : Names Ty) → StaysBehind Anywhere gs g
behind no_gens g = tt
behind (over p d gs) g = ((λ env u. each-of (members_in (domain_of d env))), behind gs (bind_types p (type_of_dom d) g))
behind (from p e gs) g = ((λ env u. each-in (meaning e env)), behind gs (bind_types p (source_ty e g) g))
behind (cond e gs) g = behind gs g

mutual
  stays : (c : In) (g : Names Ty) → StaysAt Anywhere c g
  stays hole g = tt
  stays (in_operand b op c) g = exs-stay c g
  stays (in_item c d) g = exs-stay c g
  stays (in_index_domain es c) g = dom-stays c g
  stays (in_body c gs) g = (behind gs g, stays c (names_behind gs g))
  stays (in_generators x c) g = gens-stay c g
  stays (in_cell_index b n c) g = exs-stay c g
  stays (in_view_domain r c ns es) g = dom-stays c g
  stays (in_view_index r d ns c) g = exs-stay c g

  exs-stay : (c : Ins) (g : Names Ty) → StaysAtExs Anywhere c g
  exs-stay (in_first c es) g = stays c g
  exs-stay (in_later x c) g = exs-stay c g

  gens-stay : (c : InGens) (g : Names Ty) → StaysAtGens Anywhere c g
  gens-stay (in_generator_domain p c gs) g = dom-stays c g
  gens-stay (behind_over p d c) g = ((λ env u. each-of (members_in (domain_of d env))), gens-stay c (bind_types p (type_of_dom d) g))
  gens-stay (in_source p c gs) g = stays c g
  gens-stay (behind_from p x c) g = ((λ env u. each-in (meaning x env)), gens-stay c (bind_types p (source_ty x g) g))
  gens-stay (in_condition c gs) g = stays c g
  gens-stay (behind_condition x c) g = gens-stay c g

  dom-stays : (c : InDom) (g : Names Ty) → StaysAtDom Anywhere c g
  dom-stays (in_bound rs c) g = exs-stay c g
  dom-stays (in_component c) g = doms-stay c g
  dom-stays (in_field fs c) g = doms-stay c g
  dom-stays (in_index c d) g = doms-stay c g
  dom-stays (in_element is c) g = dom-stays c g
  dom-stays (in_set_number ms c d) g = exs-stay c g
  dom-stays (in_set_member ms es c) g = dom-stays c g
  dom-stays (in_mset_number ms c d) g = exs-stay c g
  dom-stays (in_mset_member ms es c) g = dom-stays c g
  dom-stays (in_function_number ms c d r) g = exs-stay c g
  dom-stays (in_argument ms es c r) g = dom-stays c g
  dom-stays (in_result ms es d c) g = dom-stays c g
  dom-stays (in_relation_number ms c ds) g = exs-stay c g
  dom-stays (in_relation_component ms es c) g = doms-stay c g
  dom-stays (in_partition_number ms c d) g = exs-stay c g
  dom-stays (in_partition_member ms es c) g = dom-stays c g

  doms-stay : (c : InDoms) (g : Names Ty) → StaysAtDoms Anywhere c g
  doms-stay (in_first_domain c ds) g = dom-stays c g
  doms-stay (in_later_domain d c) g = doms-stay c g

-- ---- one after the other, and inside

pub chain : (g : Names Ty) (a b e : Ex) → Leads g a b → Leads g b e → Leads g a e
chain g a b e as_it_was u = u
chain g old b e (rewritten_at {a = a} {b = d} c s r t) u = rewritten_at c s r (chain g (fill c d) b e t u)

-- At the root.
at-root : (g : Names Ty) (a b : Ex) → simpler_root a ≡ Some b → Leads g a b
at-root g a b r = rewritten_at hole tt r as_it_was

-- Inside of a frame: a tree with an open part of the frame is one with the part in it.
inside : (F : In → In) (W : Ex → Ex) → ((c : In) (x : Ex) → fill (F c) x ≡ W (fill c x)) → (g h : Names Ty) (a e : Ex) → Leads h a e
    → Leads g (W a) (W e)
inside F W eq g h a e as_it_was = as_it_was
inside F W eq g h old e (rewritten_at {a = a} {b = b} c s r t) =
    subst (λ x. Leads g x (W e)) (eq c a)
    (rewritten_at (F c) (stays (F c) g) r (subst (λ x. Leads g x (W e)) (sym (eq c b)) (inside F W eq g h (fill c b) e t)))

-- ---- one node

denied-leads : (g : Names Ty) (b : Bool) (a : Ex) → Leads g (ex1 b Op1.Not a) (denied b a)
denied-leads g b (truth_ex v) = at-root g _ _ refl
denied-leads g b (node_ex c (unary Op1.Not) no_exs) =
    rewritten_at (in_operand b (unary Op1.Not) (in_first hole no_exs)) tt refl (at-root g _ _ refl)
denied-leads g b (node_ex c (unary Op1.Not) (more_exs a no_exs)) = at-root g _ _ refl
denied-leads g b (node_ex c (unary Op1.Not) (more_exs a (more_exs x xs))) =
    rewritten_at (in_operand b (unary Op1.Not) (in_first hole no_exs)) tt refl (at-root g _ _ refl)
denied-leads g b (number_ex n) = as_it_was
denied-leads g b (name_ex n) = as_it_was
denied-leads g b (node_ex c (unary Op1.Minus) es) = as_it_was
denied-leads g b (node_ex c (unary Op1.Bar) es) = as_it_was
denied-leads g b (node_ex c (binary o) es) = as_it_was
denied-leads g b (node_ex c (word f) es) = as_it_was
denied-leads g b (node_ex c (index qs) es) = as_it_was
denied-leads g b (node_ex c application es) = as_it_was
denied-leads g b (node_ex c tuple_literal es) = as_it_was
denied-leads g b (node_ex c set_literal es) = as_it_was
denied-leads g b (node_ex c mset_literal es) = as_it_was
denied-leads g b (node_ex c function_literal es) = as_it_was
denied-leads g b (node_ex c relation_literal es) = as_it_was
denied-leads g b (node_ex c partition_literal es) = as_it_was
denied-leads g b (node_ex c matrix_literal es) = as_it_was
denied-leads g b (node_ex c (record_literal fs) es) = as_it_was
denied-leads g b (matrix_ex es d) = as_it_was
denied-leads g b (comp_ex e gs) = as_it_was
denied-leads g b (cell_ex c n es) = as_it_was
denied-leads g b (seen_ex r d ns es) = as_it_was

left-leads : (g : Names Ty) (b : Bool) (o : Op2) (x y : Ex) (c : Outcome) → simpler_root (ex2 b o x y) ≡ written b x y c
    → Leads g (ex2 b o x y) (left b o x y c)
left-leads g b o x y Outcome.Stays r = as_it_was
left-leads g b o x y Outcome.First r = at-root g _ _ r
left-leads g b o x y Outcome.Second r = at-root g _ _ r
left-leads g b o x y Outcome.FirstDenied r = chain g _ _ _ (at-root g _ _ r) (denied-leads g b x)
left-leads g b o x y Outcome.SecondDenied r = chain g _ _ _ (at-root g _ _ r) (denied-leads g b y)
left-leads g b o x y (Outcome.Says v) r = at-root g _ _ r

other-leads : (g : Names Ty) (b : Bool) (o : Op2) (es : Exs) (j : Bool)
    → simpler_root (node_ex b (binary o) es) ≡ (if j then Some (truth_ex false) else None)
    → Leads g (node_ex b (binary o) es) (if j then truth_ex false else node_ex b (binary o) es)
other-leads g b o es true r = at-root g _ _ r
other-leads g b o es false r = as_it_was

binary-leads : (g : Names Ty) (b : Bool) (o : Op2) (es : Exs) → Leads g (node_ex b (binary o) es) (simpler_binary b o es)
binary-leads g b o (more_exs x (more_exs y no_exs)) = left-leads g b o x y (outcome o (said x) (said y)) refl
binary-leads g b o no_exs = other-leads g b o no_exs (is_some (connective (binary o))) refl
binary-leads g b o (more_exs x no_exs) = other-leads g b o (more_exs x no_exs) (is_some (connective (binary o))) refl
binary-leads g b o (more_exs x (more_exs y (more_exs z zs))) =
    other-leads g b o (more_exs x (more_exs y (more_exs z zs))) (is_some (connective (binary o))) refl

unary-leads : (g : Names Ty) (b : Bool) (o : Op1) (es : Exs) → Leads g (node_ex b (unary o) es) (simpler_unary b o es)
unary-leads g b Op1.Not no_exs = at-root g _ _ refl
unary-leads g b Op1.Not (more_exs a no_exs) = denied-leads g b a
unary-leads g b Op1.Not (more_exs a (more_exs x xs)) = at-root g _ _ refl
unary-leads g b Op1.Minus es = as_it_was
unary-leads g b Op1.Bar es = as_it_was

node-leads : (g : Names Ty) (b : Bool) (op : Op) (es : Exs) → Leads g (node_ex b op es) (simpler_node b op es)
node-leads g b (unary o) es = unary-leads g b o es
node-leads g b (binary o) es = binary-leads g b o es
node-leads g b (word f) es = as_it_was
node-leads g b (index qs) es = as_it_was
node-leads g b application es = as_it_was
node-leads g b tuple_literal es = as_it_was
node-leads g b set_literal es = as_it_was
node-leads g b mset_literal es = as_it_was
node-leads g b function_literal es = as_it_was
node-leads g b relation_literal es = as_it_was
node-leads g b partition_literal es = as_it_was
node-leads g b matrix_literal es = as_it_was
node-leads g b (record_literal fs) es = as_it_was

-- ---- trees: H holds the parts, K the open part in them

mutual
  -- The rule leads to the simplified tree.
  pub leads : (g : Names Ty) (e : Ex) → Leads g e (simplified e)
  leads g (number_ex n) = as_it_was
  leads g (truth_ex v) = as_it_was
  leads g (name_ex a) = as_it_was
  leads g (node_ex b op es) =
      chain g _ _ _ (exs-lead g es (node_ex b op) (in_operand b op) (λ c x. refl)) (node-leads g b op (all_simplified es))
  leads g (matrix_ex es d) = chain g _ _ _ (exs-lead g es (λ l. matrix_ex l d) (λ c. in_item c d) (λ c x. refl))
      (dom-leads g d (matrix_ex (all_simplified es)) (in_index_domain (all_simplified es)) (λ c x. refl))
  leads g (comp_ex e gs) = chain g _ _ _ (inside (λ c. in_body c gs) (λ x. comp_ex x gs) (λ c x. refl) g g e (simplified e) (leads g e))
      (gens-lead g gs (comp_ex (simplified e)) (in_generators (simplified e)) (λ c x. refl))
  leads g (cell_ex b n es) = exs-lead g es (cell_ex b n) (in_cell_index b n) (λ c x. refl)
  leads g (seen_ex r d ns es) = chain g _ _ _ (dom-leads g d (λ x. seen_ex r x ns es) (λ c. in_view_domain r c ns es) (λ c x. refl))
      (exs-lead g es (seen_ex r (dom_simplified d) ns) (in_view_index r (dom_simplified d) ns) (λ c x. refl))

  exs-lead : (g : Names Ty) (es : Exs) (H : Exs → Ex) (K : Ins → In) → ((c : Ins) (x : Ex) → fill (K c) x ≡ H (fill_exs c x))
      → Leads g (H es) (H (all_simplified es))
  exs-lead g no_exs H K eq = as_it_was
  exs-lead g (more_exs e es) H K eq = chain g _ _ _
      (inside (λ c. K (in_first c es)) (λ x. H (more_exs x es)) (λ c x. eq (in_first c es) x) g g e (simplified e) (leads g e))
      (exs-lead g es (λ l. H (more_exs (simplified e) l)) (λ c. K (in_later (simplified e) c)) (λ c x. eq (in_later (simplified e) c) x))

  gens-lead : (g : Names Ty) (gs : Gens) (H : Gens → Ex) (K : InGens → In) → ((c : InGens) (x : Ex) → fill (K c) x ≡ H (fill_gens c x))
      → Leads g (H gs) (H (gens_simplified gs))
  gens-lead g no_gens H K eq = as_it_was
  gens-lead g (over p d gs) H K eq = chain g _ _ _
      (dom-leads g d (λ x. H (over p x gs)) (λ c. K (in_generator_domain p c gs)) (λ c x. eq (in_generator_domain p c gs) x))
      (gens-lead g gs (λ x. H (over p (dom_simplified d) x)) (λ c. K (behind_over p (dom_simplified d) c))
      (λ c x. eq (behind_over p (dom_simplified d) c) x))
  gens-lead g (from p e gs) H K eq = chain g _ _ _
      (inside (λ c. K (in_source p c gs)) (λ x. H (from p x gs)) (λ c x. eq (in_source p c gs) x) g g e (simplified e) (leads g e))
      (gens-lead g gs (λ x. H (from p (simplified e) x)) (λ c. K (behind_from p (simplified e) c))
      (λ c x. eq (behind_from p (simplified e) c) x))
  gens-lead g (cond e gs) H K eq = chain g _ _ _
      (inside (λ c. K (in_condition c gs)) (λ x. H (cond x gs)) (λ c x. eq (in_condition c gs) x) g g e (simplified e) (leads g e))
      (gens-lead g gs (λ x. H (cond (simplified e) x)) (λ c. K (behind_condition (simplified e) c))
      (λ c x. eq (behind_condition (simplified e) c) x))

  dom-leads : (g : Names Ty) (d : Dom) (H : Dom → Ex) (K : InDom → In) → ((c : InDom) (x : Ex) → fill (K c) x ≡ H (fill_dom c x))
      → Leads g (H d) (H (dom_simplified d))
  dom-leads g bool_dom H K eq = as_it_was
  dom-leads g (int_dom rs es) H K eq = exs-lead g es (λ l. H (int_dom rs l)) (λ c. K (in_bound rs c)) (λ c x. eq (in_bound rs c) x)
  dom-leads g (name_dom a) H K eq = as_it_was
  dom-leads g (tuple_dom ds) H K eq = doms-lead g ds (λ l. H (tuple_dom l)) (λ c. K (in_component c)) (λ c x. eq (in_component c) x)
  dom-leads g (record_dom fs ds) H K eq = doms-lead g ds (λ l. H (record_dom fs l)) (λ c. K (in_field fs c)) (λ c x. eq (in_field fs c) x)
  dom-leads g (matrix_dom is d) H K eq = chain g _ _ _
      (doms-lead g is (λ l. H (matrix_dom l d)) (λ c. K (in_index c d)) (λ c x. eq (in_index c d) x))
      (dom-leads g d (λ l. H (matrix_dom (doms_simplified is) l)) (λ c. K (in_element (doms_simplified is) c))
      (λ c x. eq (in_element (doms_simplified is) c) x))
  dom-leads g (set_dom ms es d) H K eq = chain g _ _ _
      (exs-lead g es (λ l. H (set_dom ms l d)) (λ c. K (in_set_number ms c d)) (λ c x. eq (in_set_number ms c d) x))
      (dom-leads g d (λ l. H (set_dom ms (all_simplified es) l)) (λ c. K (in_set_member ms (all_simplified es) c))
      (λ c x. eq (in_set_member ms (all_simplified es) c) x))
  dom-leads g (mset_dom ms es d) H K eq = chain g _ _ _
      (exs-lead g es (λ l. H (mset_dom ms l d)) (λ c. K (in_mset_number ms c d)) (λ c x. eq (in_mset_number ms c d) x))
      (dom-leads g d (λ l. H (mset_dom ms (all_simplified es) l)) (λ c. K (in_mset_member ms (all_simplified es) c))
      (λ c x. eq (in_mset_member ms (all_simplified es) c) x))
  dom-leads g (function_dom ms es d r) H K eq = chain g _ _ _
      (exs-lead g es (λ l. H (function_dom ms l d r)) (λ c. K (in_function_number ms c d r)) (λ c x. eq (in_function_number ms c d r) x))
      (chain g _ _ _
      (dom-leads g d (λ l. H (function_dom ms (all_simplified es) l r)) (λ c. K (in_argument ms (all_simplified es) c r))
      (λ c x. eq (in_argument ms (all_simplified es) c r) x))
      (dom-leads g r (λ l. H (function_dom ms (all_simplified es) (dom_simplified d) l))
      (λ c. K (in_result ms (all_simplified es) (dom_simplified d) c))
      (λ c x. eq (in_result ms (all_simplified es) (dom_simplified d) c) x)))
  dom-leads g (relation_dom ms es ds) H K eq = chain g _ _ _
      (exs-lead g es (λ l. H (relation_dom ms l ds)) (λ c. K (in_relation_number ms c ds)) (λ c x. eq (in_relation_number ms c ds) x))
      (doms-lead g ds (λ l. H (relation_dom ms (all_simplified es) l)) (λ c. K (in_relation_component ms (all_simplified es) c))
      (λ c x. eq (in_relation_component ms (all_simplified es) c) x))
  dom-leads g (partition_dom ms es d) H K eq = chain g _ _ _
      (exs-lead g es (λ l. H (partition_dom ms l d)) (λ c. K (in_partition_number ms c d)) (λ c x. eq (in_partition_number ms c d) x))
      (dom-leads g d (λ l. H (partition_dom ms (all_simplified es) l)) (λ c. K (in_partition_member ms (all_simplified es) c))
      (λ c x. eq (in_partition_member ms (all_simplified es) c) x))

  doms-lead : (g : Names Ty) (ds : Doms) (H : Doms → Ex) (K : InDoms → In) → ((c : InDoms) (x : Ex) → fill (K c) x ≡ H (fill_doms c x))
      → Leads g (H ds) (H (doms_simplified ds))
  doms-lead g no_doms H K eq = as_it_was
  doms-lead g (more_doms d ds) H K eq = chain g _ _ _
      (dom-leads g d (λ l. H (more_doms l ds)) (λ c. K (in_first_domain c ds)) (λ c x. eq (in_first_domain c ds) x))
      (doms-lead g ds (λ l. H (more_doms (dom_simplified d) l)) (λ c. K (in_later_domain (dom_simplified d) c))
      (λ c x. eq (in_later_domain (dom_simplified d) c) x))
