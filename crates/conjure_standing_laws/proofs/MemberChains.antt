-- Chains of rules from a membership lead to a tree of the membership, and those from a bound or `true` nowhere.
use Rattle.std.proofs.Common.{◌≡◌, refl, sym, ap, ◌∙◌, subst, ℕ, ◌+◌, Bool, true, false, if◌then◌else◌, List, [], inl, inr, Some, None}
use Rattle.ess_semantics.specs.Values.{Text}
use Rattle.ess_semantics.specs.Names.{Names}
use Rattle.ess_semantics.specs.Trees.{Ex, truth_ex, Dom, bool_dom}
use Rattle.ess_semantics.specs.Types.{Ty}
use Rattle.ess_semantics.specs.Contexts.{fill}
use Rattle.ess_refine_laws.specs.AllRules.{rewrite}
use Rattle.ess_open_rules_laws.specs.OpenRules.{kind_ruled}
use Rattle.ess_grammar.specs.Models.{Scope}
use Rattle.conjure_modelling.specs.ess_refine.Chains.{as_it_was, led_at, Leads}
use Rattle.conjure_modelling.specs.ess_rules.Ruled.{IsRuled, Ruling, plainly, by_kind, gathering, in_order, by_number, supply_at, puts_source, ruled, with_new_source, root_of}
use Rattle.conjure_modelling.specs.ess_model_trees.Written.{written_for, IsWrittenBy, ComesFrom}
use Rattle.ess_member_trees_laws.specs.PartSteps.{Step}
use Rattle.ess_member_trees_laws.specs.Memberships.{Literal, a_number, a_truth, Bound, at_number, at_cell, Axis, truths, numbers, Family, as_asked, asked, Part, literal_part, bound_part, name_part, view_part, asked_part, cell_part, named_part, it_part, items_of_set, set_part, items_where, where_part, bare_items, bare_part, bare_both, it_both, items_bare, with_bare_part, items_it, with_it_part, list_part, listed_part, Becomes}
use Rattle.ess_member_trees_laws.proofs.AllRules as A
use Rattle.ess_member_trees_laws.proofs.PartSteps.{part-step}
use Rattle.ess_member_trees_laws.proofs.Closed.{family-step}
use Rattle.ess_ordered_member_laws.proofs.MembershipOrder as R
use Rattle.ess_ordered_member_laws.proofs.MembershipNumbers as N
use Rattle.ess_member_rules_laws.specs.WrittenForms.{Written}
use Rattle.ess_member_rules_laws.proofs.Forms.{forms}
use Rattle.conjure_model_laws.specs.Printed.{printed_name}

-- One of the rules, with some reserved names.
pub record IsRule (g : Names Ty) (a b : Ex) : Type 0 where
  pub n : ℕ
  pub m : ℕ
  pub ruled : IsRuled n g a b m

no-tree : {e : Ex} → None ≡ Some e → ⊥
no-tree q = cc

-- A source that is told apart stays as it is.
no-source : (n : Text) {D : Dom} (L : Ex) {g : Names Ty} {a : Ex} → Axis D → Part n D L g a → (j : ℕ) → (with_new_source j a).0 ≡ a
no-source n L x (literal_part a_number) j = refl
no-source n L x (literal_part a_truth) j = refl
no-source n L x (bound_part at_number) j = refl
no-source n L x (bound_part at_cell) j = refl
no-source n L x name_part j = refl
no-source n L x view_part j = refl
no-source n L x asked_part j = refl
no-source n L x cell_part j = refl
no-source n L x named_part j = refl
no-source n L x (it_part h) j = refl
no-source n L x items_of_set j = refl
no-source n L x set_part j = refl
no-source n L truths items_where j = refl
no-source n L (numbers p q) items_where j = refl
no-source n L truths where_part j = refl
no-source n L (numbers p q) where_part j = refl
no-source n L x bare_items j = refl
no-source n L x bare_part j = refl
no-source n L x bare_both j = refl
no-source n L x it_both j = refl
no-source n L truths items_bare j = refl
no-source n L (numbers p q) items_bare j = refl
no-source n L truths with_bare_part j = refl
no-source n L (numbers p q) with_bare_part j = refl
no-source n L truths items_it j = refl
no-source n L (numbers p q) items_it j = refl
no-source n L truths with_it_part j = refl
no-source n L (numbers p q) with_it_part j = refl
no-source n L x (list_part o) j = refl
no-source n L x (listed_part o) j = refl

module _ (n : Text) (D : Dom) (L : Ex) (ax : Axis D) (l : Literal L) where
  choose-root : (b : Bool) (x y : Ex) → x ≡ y → (if b then x else y) ≡ y
  choose-root true x y q = q
  choose-root false x y q = refl

  -- A rule makes of a part what the part becomes.
  makes : (g : Names Ty) (a b : Ex) (p : Part n D L g a) → IsRule g a b → Becomes n D L p b
  makes g a b p r = by r.ruled.rule (sym (ap (ruled (supply_at r.n r.ruled.count) g r.ruled.rule) (same r.ruled.rule)) ∙ r.ruled.fires)
    where
      same : (u : Ruling) → root_of (r.n + 3 + r.ruled.count) u a ≡ a
      same u = choose-root (puts_source u) (with_new_source (r.n + 3 + r.ruled.count) a).0 a (no-source n L ax p (r.n + 3 + r.ruled.count))

      by : (u : Ruling) → ruled (supply_at r.n r.ruled.count) g u a ≡ Some b → Becomes n D L p b
      by (plainly u) e = A.made-becomes n D L ax l p b (rewrite (supply_at r.n r.ruled.count) g u a)
          (A.plainly n D L ax l (supply_at r.n r.ruled.count) g u a p) e
      by (by_kind u) e = A.made-becomes n D L ax l p b (kind_ruled (supply_at r.n r.ruled.count) g u a)
          (A.by-kind n D L ax l (supply_at r.n r.ruled.count) g u a p) e
      by gathering e = absurd (no-tree (sym (A.gathered n D L ax l g a p) ∙ e))
      by (in_order u) e = absurd (no-tree (sym (R.no-order n D L l (supply_at r.n r.ruled.count) g ax u p) ∙ e))
      by (by_number u) e = absurd (no-tree (sym (N.no-number-rule n D L l (supply_at r.n r.ruled.count) g u p) ∙ e))

  -- A chain leads from a tree of the membership to one.
  pub leads-family : (k : ℕ) (g : Names Ty) (old last : Ex) (m : ℕ) → Family n D L old → Leads IsRuled k g old last m → Family n D L last
  leads-family k g old last m f (as_it_was p) = f
  leads-family k g old last m f (led_at {s = s} {k = j} {a = a} {b = b} c p r w) =
      leads-family j g (fill c b) last m
      (family-step n D L ax l IsRule makes g (fill c a) (fill c b) f (part-step IsRule c g a b (record { n = s; m = j; ruled = r }))) w

  -- What is written for the membership has one of its forms.
  pub written-form : (taken : List Text) (k m : ℕ) (new : Ex) → IsWrittenBy taken k (asked n D L) new m →
      Written n D L (printed_name taken 0) new
  written-form taken k m new w =
      subst (Written n D L (printed_name taken 0)) (sym w.writes)
      (forms n D L ax l taken w.last (leads-family k [] (asked n D L) w.last m as_asked w.leads) w.refined)

  -- What comes of the membership is written for it.
  pub comes-written : (s : Scope) (taken : List Text) (k : ℕ) (new : Ex) → ComesFrom s taken k (asked n D L) (Some new) →
      Written n D L (printed_name taken 0) new
  comes-written s taken k new c = written-form taken k c.0 new c.1.0

  -- ---- bounds and truth values

  bound-still : (g : Names Ty) (e f : Ex) → Bound e → Step IsRule g e f → ⊥
  bound-still g e f at_number r = makes g e f (bound_part at_number) r
  bound-still g e f at_cell (inl r) = makes g e f (bound_part at_cell) r
  bound-still g e f at_cell (inr (fs, q, w)) = absurd w

  -- A chain from a bound, or from a truth value, leads to itself.
  pub bound-leads : (k : ℕ) (g : Names Ty) (old last : Ex) (m : ℕ) → Bound old → Leads IsRuled k g old last m → last ≡ old
  bound-leads k g old last m b (as_it_was p) = refl
  bound-leads k g old last m b (led_at {s = s} {k = j} {a = a} {b = e} c p r w) =
      absurd (bound-still g (fill c a) (fill c e) b (part-step IsRule c g a e (record { n = s; m = j; ruled = r })))

  pub truth-leads : (k : ℕ) (g : Names Ty) (v : Bool) (old last : Ex) (m : ℕ) → old ≡ truth_ex v → Leads IsRuled k g old last m → last ≡ old
  truth-leads k g v old last m q (as_it_was p) = refl
  truth-leads k g v old last m q (led_at {s = s} {k = j} {a = a} {b = e} c p r w) =
      absurd (subst (λ t. Step IsRule g t (fill c e) → ⊥) (sym q) (λ r. makes g (truth_ex v) (fill c e) (literal_part a_truth) r)
      (part-step IsRule c g a e (record { n = s; m = j; ruled = r })))

-- A bound is written as it is.
pub written-bound : (taken : List Text) {e : Ex} → Bound e → written_for taken e ≡ e
written-bound taken at_number = refl
written-bound taken at_cell = refl

-- What comes of a bound is the bound.
pub comes-bound : (s : Scope) (taken : List Text) (k : ℕ) (e new : Ex) → Bound e → ComesFrom s taken k e (Some new) → new ≡ e
comes-bound s taken k e new b c =
    let w = c.1.0 in
    w.writes ∙ ap (written_for taken) (bound-leads [] bool_dom (truth_ex true) truths a_truth k [] e w.last c.0 b w.leads)
    ∙ written-bound taken b

-- What comes of `true` is `true`.
pub comes-true : (s : Scope) (taken : List Text) (k : ℕ) (new : Ex) → ComesFrom s taken k (truth_ex true) (Some new) → new ≡ truth_ex true
comes-true s taken k new c =
    let w = c.1.0 in
    w.writes ∙ ap (written_for taken) (truth-leads [] bool_dom (truth_ex true) truths a_truth k [] true
    (truth_ex true) w.last c.0 refl w.leads)
