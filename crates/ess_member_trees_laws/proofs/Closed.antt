-- Each step at a part of a tree of a membership leads to such a tree, where steps at parts do no more than rules.
use Rattle.std.proofs.Common.{◌≡◌, refl, sym, ap, ◌∙◌, subst, true, false, if◌then◌else◌, inl, inr, Some}
use Rattle.ess_semantics.specs.declared.words.Op2.{Op2}
use Rattle.ess_semantics.specs.declared.words.Fun.{Fun}
use Rattle.ess_semantics.specs.Values.{Text}
use Rattle.ess_semantics.specs.Order.{same_text}
use Rattle.ess_semantics.specs.Names.{Names, look}
use Rattle.ess_semantics.specs.Trees.{binary, word, matrix_literal, name_pat, Ex, name_ex, node_ex, comp_ex, no_exs, more_exs, no_gens, over, Dom}
use Rattle.ess_semantics.specs.Types.{Ty, type_of_dom, bind_types}
use Rattle.ess_semantics.proofs.Texts.{same_text-itself}
use Rattle.ess_flat_laws.specs.ess_open_rules_laws.OpenRules.{is_compound_ty}
use Rattle.ess_member_trees_laws.specs.PartSteps.{Step, DomStep}
use Rattle.ess_member_trees_laws.specs.Memberships.{Literal, a_number, a_truth, Bound, at_number, at_cell, Axis, truths, numbers, view, cell_at, is_it, some_of, OverDomain, a_cell, a_bare, an_it, Family, as_asked, the_cell, of_set, folded, listed, Plainly, Part, literal_part, bound_part, name_part, view_part, asked_part, cell_part, named_part, it_part, items_of_set, set_part, items_where, where_part, bare_items, bare_part, bare_both, it_both, items_bare, with_bare_part, items_it, with_it_part, list_part, listed_part, Becomes}

-- A name that is bound to values that aren't compound.
plain-here : (g : Names Ty) (x : Text) (t : Ty) → is_compound_ty (Some t) ≡ false →
    is_compound_ty (if same_text x x then Some t else look g x) ≡ false
plain-here g x t h = ap (λ b. is_compound_ty (if b then Some t else look g x)) (same_text-itself x) ∙ h

module _ (n : Text) (A : Dom) (L : Ex) (ax : Axis A) (l : Literal L) (R : Names Ty → Ex → Ex → Type 0)
    (makes : (g : Names Ty) (a b : Ex) (p : Part n A L g a) → R g a b → Becomes n A L p b) where
  -- ---- parts that stay

  literal-still : (g : Names Ty) (e f : Ex) → Literal e → Step R g e f → ⊥
  literal-still g e f a_number r = makes g e f (literal_part a_number) r
  literal-still g e f a_truth r = makes g e f (literal_part a_truth) r

  bound-still : (g : Names Ty) (e f : Ex) → Bound e → Step R g e f → ⊥
  bound-still g e f at_number r = makes g e f (bound_part at_number) r
  bound-still g e f at_cell (inl r) = makes g e f (bound_part at_cell) r
  bound-still g e f at_cell (inr (fs, q, w)) = absurd w

  name-still : (g : Names Ty) (x : Text) (f : Ex) → Step R g (name_ex x) f → ⊥
  name-still g x f r = makes g (name_ex x) f name_part r

  axis-still : (g : Names Ty) (B c : Dom) → Axis B → DomStep R g B c → ⊥
  axis-still g B c truths w = absurd w
  axis-still g B c (numbers p q) (fs, e, inl (f, k, w)) = bound-still g _ f p w
  axis-still g B c (numbers p q) (fs, e, inr (hs, k, inl (f, m, w))) = bound-still g _ f q w
  axis-still g B c (numbers p q) (fs, e, inr (hs, k, inr (ks, m, w))) = absurd w

  view-still : (g : Names Ty) (f : Ex) → Step R g (view n A L) f → ⊥
  view-still g f (inl r) = makes g (view n A L) f view_part r
  view-still g f (inr (inl (c, q, inl (fs, k, w)))) = absurd w
  view-still g f (inr (inl (c, q, inr (b, k, w)))) = axis-still g A b ax w
  view-still g f (inr (inr (fs, q, w))) = absurd w

  literal-cell-still : (g : Names Ty) (f : Ex) → Step R g (cell_at n A L L) f → ⊥
  literal-cell-still g f (inl r) = makes g (cell_at n A L L) f cell_part r
  literal-cell-still g f (inr (fs, q, inl (h, k, w))) = literal-still g L h l w
  literal-cell-still g f (inr (fs, q, inr (hs, k, w))) = absurd w

  cell-still : (g : Names Ty) (x : Text) (f : Ex) → Step R g (cell_at n A L (name_ex x)) f → ⊥
  cell-still g x f (inl r) = makes g (cell_at n A L (name_ex x)) f named_part r
  cell-still g x f (inr (fs, q, inl (h, k, w))) = name-still g x h w
  cell-still g x f (inr (fs, q, inr (hs, k, w))) = absurd w

  it-still : (g : Names Ty) (x : Text) (f : Ex) → Plainly n A L g x → Step R g (is_it n A L x) f → ⊥
  it-still g x f h (inl r) = makes g (is_it n A L x) f (it_part h) r
  it-still g x f h (inr (fs, q, inl (e, k, w))) = name-still g x e w
  it-still g x f h (inr (fs, q, inr (hs, k, inl (e, m, w)))) = literal-still g L e l w
  it-still g x f h (inr (fs, q, inr (hs, k, inr (ks, m, w)))) = absurd w

  -- ---- names that are bound

  no-compound : {B : Dom} → Axis B → is_compound_ty (Some (type_of_dom B)) ≡ false
  no-compound truths = refl
  no-compound (numbers p q) = refl

  bound-name : (g : Names Ty) (x : Text) → Plainly n A L (bind_types (name_pat x) (type_of_dom A) g) x
  bound-name g x = plain-here g x (type_of_dom A) (no-compound ax)

  -- ---- parts that change

  bare-step : (g : Names Ty) (x : Text) (u : Ex) → Plainly n A L g x → Step R g (some_of n A L (is_it n A L x) no_gens) u →
      u ≡ is_it n A L x
  bare-step g x u h (inl r) = makes g (some_of n A L (is_it n A L x) no_gens) u bare_part r
  bare-step g x u h (inr (fs, q, inl (f, k, inl r))) = absurd (makes g (comp_ex (is_it n A L x) no_gens) f bare_items r)
  bare-step g x u h (inr (fs, q, inl (f, k, inr (inl (e, m, w))))) = absurd (it-still g x e h w)
  bare-step g x u h (inr (fs, q, inl (f, k, inr (inr (hs, m, w))))) = absurd w
  bare-step g x u h (inr (fs, q, inr (hs, k, w))) = absurd w

  -- A fold over the domain stays one.
  domain-step : (g : Names Ty) (t u : Ex) → OverDomain n A L t → Step R g t u → OverDomain n A L u
  domain-step g t u (a_cell {x = x}) (inl r) = subst (OverDomain n A L) (sym (makes g t u (where_part {x = x}) r)) a_bare
  domain-step g t u (a_cell {x = x}) (inr (fs, q, inl (f, k, inl r))) = absurd (makes g _ f (items_where {x = x}) r)
  domain-step g t u (a_cell {x = x}) (inr (fs, q, inl (f, k, inr (inl (e, m, w))))) =
      absurd (it-still (bind_types (name_pat x) (type_of_dom A) g) x e (bound-name g x) w)
  domain-step g t u (a_cell {x = x}) (inr (fs, q, inl (f, k, inr (inr (hs, m, inl (c, j, w)))))) = absurd (axis-still g A c ax w)
  domain-step g t u (a_cell {x = x}) (inr (fs, q, inl (f, k, inr (inr (hs, m, inr (ks, j, inl (e, i, w))))))) =
      absurd (cell-still (bind_types (name_pat x) (type_of_dom A) g) x e w)
  domain-step g t u (a_cell {x = x}) (inr (fs, q, inl (f, k, inr (inr (hs, m, inr (ks, j, inr (es, i, w))))))) = absurd w
  domain-step g t u (a_cell {x = x}) (inr (fs, q, inr (hs, k, w))) = absurd w
  domain-step g t u (a_bare {x = x}) (inl r) = absurd (makes g t u (with_bare_part {x = x}) r)
  domain-step g t u (a_bare {x = x}) (inr (fs, q, inl (f, k, inl r))) = absurd (makes g _ f (items_bare {x = x}) r)
  domain-step g t u (a_bare {x = x}) (inr (fs, q, inl (f, k, inr (inl (e, m, inl r))))) =
      absurd (makes (bind_types (name_pat x) (type_of_dom A) g) _ e (bare_both {x = x}) r)
  domain-step g t u (a_bare {x = x}) (inr (fs, q, inl (f, k, inr (inl (e, m, inr (es, j, inl (c, i, w))))))) =
      absurd (cell-still (bind_types (name_pat x) (type_of_dom A) g) x c w)
  domain-step g t u (a_bare {x = x}) (inr (fs, q, inl (f, k, inr (inl (e, m, inr (es, j, inr (hs, i, inl (b, d, w)))))))) =
      subst (OverDomain n A L)
      (sym (q ∙ ap (node_ex true (word Fun.Or)) (k ∙ ap (λ z. more_exs z no_exs) (m ∙ ap (λ z. comp_ex z (over (name_pat x) A no_gens))
      (j ∙ ap (node_ex true (binary Op2.And)) (i ∙ ap (more_exs (cell_at n A L (name_ex x))) (d ∙ ap (λ z. more_exs z no_exs)
      (bare-step (bind_types (name_pat x) (type_of_dom A) g) x b (bound-name g x) w)))))))) an_it
  domain-step g t u (a_bare {x = x}) (inr (fs, q, inl (f, k, inr (inl (e, m, inr (es, j, inr (hs, i, inr (ks, d, w)))))))) = absurd w
  domain-step g t u (a_bare {x = x}) (inr (fs, q, inl (f, k, inr (inr (hs, m, inl (c, j, w)))))) = absurd (axis-still g A c ax w)
  domain-step g t u (a_bare {x = x}) (inr (fs, q, inl (f, k, inr (inr (hs, m, inr (ks, j, w)))))) = absurd w
  domain-step g t u (a_bare {x = x}) (inr (fs, q, inr (hs, k, w))) = absurd w
  domain-step g t u (an_it {x = x}) (inl r) = absurd (makes g t u (with_it_part {x = x}) r)
  domain-step g t u (an_it {x = x}) (inr (fs, q, inl (f, k, inl r))) = absurd (makes g _ f (items_it {x = x}) r)
  domain-step g t u (an_it {x = x}) (inr (fs, q, inl (f, k, inr (inl (e, m, inl r))))) =
      absurd (makes (bind_types (name_pat x) (type_of_dom A) g) _ e (it_both {x = x}) r)
  domain-step g t u (an_it {x = x}) (inr (fs, q, inl (f, k, inr (inl (e, m, inr (es, j, inl (c, i, w))))))) =
      absurd (cell-still (bind_types (name_pat x) (type_of_dom A) g) x c w)
  domain-step g t u (an_it {x = x}) (inr (fs, q, inl (f, k, inr (inl (e, m, inr (es, j, inr (hs, i, inl (b, d, w)))))))) =
      absurd (it-still (bind_types (name_pat x) (type_of_dom A) g) x b (bound-name g x) w)
  domain-step g t u (an_it {x = x}) (inr (fs, q, inl (f, k, inr (inl (e, m, inr (es, j, inr (hs, i, inr (ks, d, w)))))))) = absurd w
  domain-step g t u (an_it {x = x}) (inr (fs, q, inl (f, k, inr (inr (hs, m, inl (c, j, w)))))) = absurd (axis-still g A c ax w)
  domain-step g t u (an_it {x = x}) (inr (fs, q, inl (f, k, inr (inr (hs, m, inr (ks, j, w)))))) = absurd w
  domain-step g t u (an_it {x = x}) (inr (fs, q, inr (hs, k, w))) = absurd w

  -- Each tree of the membership leads to one.
  pub family-step : (g : Names Ty) (t u : Ex) → Family n A L t → Step R g t u → Family n A L u
  family-step g t u as_asked (inl r) = at-root (makes g t u asked_part r)
    where
      at-root : Becomes n A L {g = g} asked_part u → Family n A L u
      at-root (inl e) = subst (Family n A L) (sym e) the_cell
      at-root (inr (x, e)) = subst (Family n A L) (sym e) of_set
  family-step g t u as_asked (inr (fs, q, inl (f, k, w))) = absurd (literal-still g L f l w)
  family-step g t u as_asked (inr (fs, q, inr (hs, k, inl (f, m, w)))) = absurd (view-still g f w)
  family-step g t u as_asked (inr (fs, q, inr (hs, k, inr (ks, m, w)))) = absurd w
  family-step g t u the_cell w = absurd (literal-cell-still g u w)
  family-step g t u (of_set {x = x}) (inl r) = at-root (makes g t u (set_part {x = x}) r)
    where
      at-root : Becomes n A L {g = g} (set_part {x = x}) u → Family n A L u
      at-root (y, inl e) = subst (Family n A L) (sym e) (folded a_cell)
      at-root (y, inr e) = subst (Family n A L) (sym e) (listed a_cell)
  family-step g t u (of_set {x = x}) (inr (fs, q, inl (f, k, inl r))) = absurd (makes g _ f (items_of_set {x = x}) r)
  family-step g t u (of_set {x = x}) (inr (fs, q, inl (f, k, inr (inl (e, m, w))))) =
      absurd (it-still (bind_types (name_pat x) (type_of_dom A) g) x e (bound-name g x) w)
  family-step g t u (of_set {x = x}) (inr (fs, q, inl (f, k, inr (inr (hs, m, inl (v, j, w)))))) = absurd (view-still g v w)
  family-step g t u (of_set {x = x}) (inr (fs, q, inl (f, k, inr (inr (hs, m, inr (ks, j, w)))))) = absurd w
  family-step g t u (of_set {x = x}) (inr (fs, q, inr (hs, k, w))) = absurd w
  family-step g t u (folded o) w = folded (domain-step g t u o w)
  family-step g t u (listed o) (inl r) = subst (Family n A L) (sym (makes g t u (listed_part o) r)) (folded o)
  family-step g t u (listed o) (inr (fs, q, inl (f, k, inl r))) = absurd (makes g _ f (list_part o) r)
  family-step g t u (listed o) (inr (fs, q, inl (f, k, inr (es, m, inl (e, j, w))))) =
      subst (Family n A L) (sym (q ∙ ap (node_ex true (word Fun.Or)) (k ∙ ap (λ z. more_exs z no_exs) (m
      ∙ ap (node_ex false matrix_literal) j))))
      (listed (domain-step g _ e o w))
  family-step g t u (listed o) (inr (fs, q, inl (f, k, inr (es, m, inr (ks, j, w))))) = absurd w
  family-step g t u (listed o) (inr (fs, q, inr (hs, k, w))) = absurd w
