-- All rules that read the kind of a view keep what they rewrite.
use Rattle.std.proofs.Common.{◌≡◌, refl, sym, ap, ◌∙◌, subst, ℕ, zero, suc, ◌+◌, Bool, true, false, ◌&&◌, not, if◌then◌else◌, List, [], ◌∷◌, Option, Some, None, arith}
use Rattle.std.specs.Prelude.{IsTrue, is_some}
use Rattle.ess_semantics.specs.Lists.{and_then, or_else}
use Rattle.ess_semantics.specs.Names.{Names}
use Rattle.ess_semantics.specs.Trees.{name_pat, Ex, Exs, node_ex, comp_ex, fun1, no_exs, more_exs, from}
use Rattle.ess_semantics.specs.Types.{Ty}
use Rattle.ess_semantics.specs.Typing.{type_of}
use Rattle.ess_semantics.specs.Typed.{Typed}
use Rattle.ess_semantics.specs.Contexts.{guards}
use Rattle.ess_semantics.specs.Meaning.{Env, meaning}
use Rattle.ess_semantics.specs.Meets.{Meets, MeetsAll}
use Rattle.ess_semantics.specs.Kept.{Keeps}
use Rattle.ess_semantics.proofs.Tests.{and-left}
use Rattle.ess_rules_laws.specs.Rules.{Unused, OperandsThere}
use Rattle.ess_rules_laws.specs.Listings.{Alternative}
use Rattle.ess_rules_laws.specs.ListedSources.{source_alone, source_parts}
use Rattle.ess_rules_laws.specs.LiteralRules.{nth}
use Rattle.ess_rules_laws.specs.FunctionLookups.{unmarked}
use Rattle.ess_rules_laws.specs.FunctionKeys.{result_at_argument, lookup_behind_flag, ArgumentTold}
use Rattle.ess_rules_laws.specs.Lookups.{is_plain, select_whole}
use Rattle.ess_rules_laws.specs.AlternativeLookups.{LookedBy, LooksUpEach, select_each, select_whole_each}
use Rattle.ess_rules_laws.specs.Progress.{is_parted}
use Rattle.ess_rules_laws.proofs.AtomViews.{atom_cell-keeps}
use Rattle.ess_rules_laws.proofs.OccurrenceViews.{member_by_cell-keeps}
use Rattle.ess_rules_laws.proofs.SetSizes.{size_by_marker-keeps, size_by_slots-keeps}
use Rattle.ess_rules_laws.proofs.FunctionKeys.{result_at_argument-keeps}
use Rattle.ess_rules_laws.proofs.FunctionFlags.{defined_where_flagged-keeps, behind_flag-looked}
use Rattle.ess_rules_laws.proofs.FunctionLookups.{looks}
use Rattle.ess_rules_laws.proofs.Lookups.{unguarded, select_whole-keeps}
use Rattle.ess_rules_laws.proofs.AlternativeSelections.{nth-met, select_each-keeps, select_whole_each-keeps}
use Rattle.ess_rules_laws.proofs.ListedSources.{listed_sources-keep}
use Rattle.ess_views_laws.specs.ComponentViews.{component_view}
use Rattle.ess_views_laws.specs.MatrixViews.{item_view}
use Rattle.ess_views_kept_laws.specs.ComponentsKept.{FitsMark}
use Rattle.ess_views_kept_laws.proofs.ComponentViews.{components-keep}
use Rattle.ess_views_kept_laws.proofs.MatrixViews.{items-keep}
use Rattle.ess_views_kept_laws.proofs.AskedChildren.{asked_of_child-keeps}
use Rattle.ess_views_kept_laws.proofs.MultisetViews.{multiset_member-keeps}
use Rattle.ess_views_kept_laws.proofs.PartitionViews.{number_of_parts-keeps}
use Rattle.ess_views_kept_laws.proofs.ParticipantViews.{is_participant-keeps}
use Rattle.ess_refine_laws.specs.AllRules.{Supply, OfSome}
use Rattle.ess_kind_rules_laws.specs.ViewListings.{slots_of_operand, partitioned_second, view_listing}
use Rattle.ess_kind_rules_laws.specs.TermLookups.{picks, looked_up}
use Rattle.ess_kind_rules_laws.specs.KindRules.{KindRule, cell_of_an_atom, component_of_a_view, truth_in_a_matrix, asked_of_its_child, over_a_view, of_one_view, member_at_a_cell, member_of_a_multiset, argument_with_a_flag, member_of_a_part, size_at_the_marker, size_of_slots, size_of_a_multiset, size_of_a_function, size_of_the_parts, frequency_by_cells, lie_together, party_by_number, truth_at_an_argument, truth_behind_a_flag, of_what_is_picked, picked, view_listed, asks_truth, first_picked, over_picked, kind_rewrite, kind_rules, first_of_kinds}
use Rattle.ess_kinds_kept_laws.specs.LookupAsks.{LookupAsks}
use Rattle.ess_kinds_kept_laws.specs.KindAsks.{ViewApart, SourceAsks, RootFits, PickedAsks, KindAsks, KindsFit, KindRulesKeep}
use Rattle.ess_kinds_kept_laws.proofs.CountedMultisets.{size-keeps, frequency-keeps}
use Rattle.ess_kinds_kept_laws.proofs.FunctionSizes.{function_size-keeps}
use Rattle.ess_kinds_kept_laws.proofs.PartyRules.{partition_party-keeps}
use Rattle.ess_kinds_kept_laws.proofs.TogetherRule.{are_together-keeps}
use Rattle.ess_kinds_kept_laws.proofs.ViewsOffer.{views-offer}
use Rattle.ess_kinds_kept_laws.proofs.TermsLookedUp.{unmarked-itself, terms-looked-up}

no : {A : Type 0} → false ≡ true → A
no h = cc

-- A rule under a test.
pub under-test : (b : Bool) (o : Option Ex) (f : Ex) → (if b then o else None) ≡ Some f → (b ≡ true) × (o ≡ Some f)
under-test true o f q = (refl, q)
under-test false o f q = cc

-- What is made of what is there.
pub of-there : {A : Type 0} (o : Option A) (F : A → Option Ex) (f : Ex) (P : A → Type 0) (Q : Type 0) → and_then o F ≡ Some f → OfSome o P →
    ((a : A) → o ≡ Some a → F a ≡ Some f → P a → Q) → Q
of-there None F f P Q q c h = cc
of-there (Some a) F f P Q q c h = h a refl q c

-- What holds of what is there holds of what it is.
of-fired : {A : Type 0} (o : Option A) (a : A) (P : A → Type 0) → o ≡ Some a → OfSome o P → P a
of-fired o a P q c = subst (λ z. OfSome z P) q c

-- ---- folds over views

parts-keep : (s : Supply) (e f : Ex) → view_listed (λ a. source_parts (a ∷ [])) s e ≡ Some f → (env : Env) → SourceAsks s e env →
    OperandsThere e env → Keeps e f env
parts-keep s (fun1 m w (comp_ex e (from (name_pat y) t hs))) f q env c o h =
    of-there (view_listing s.one s.other s.parts t) (λ a. source_parts (a ∷ []) (fun1 m w (comp_ex e (from (name_pat y) t hs)))) f
    (λ a. ViewApart s a t (fun1 m w (comp_ex e (from (name_pat y) t hs))) env) _ q c
    (λ a l p d. listed_sources-keep.in_parts d.0 d.1 (a ∷ []) (fun1 m w (comp_ex e (from (name_pat y) t hs))) f p d.2 env
    (d.3, views-offer s.one s.other s.parts t a l env d.4 h.0.0) o h)
parts-keep s _ f q env c o h = cc

alone-keeps : (s : Supply) (e f : Ex) → view_listed source_alone s e ≡ Some f → (env : Env) → SourceAsks s e env → Keeps e f env
alone-keeps s (fun1 m w (comp_ex e (from (name_pat y) t hs))) f q env c h =
    of-there (view_listing s.one s.other s.parts t) (λ a. source_alone a (fun1 m w (comp_ex e (from (name_pat y) t hs)))) f
    (λ a. ViewApart s a t (fun1 m w (comp_ex e (from (name_pat y) t hs))) env) _ q c
    (λ a l p d. listed_sources-keep.alone d.0 d.1 a (fun1 m w (comp_ex e (from (name_pat y) t hs))) f p d.2 env
    (d.3, views-offer s.one s.other s.parts t a l env d.4 h.0.0) h)
alone-keeps s _ f q env c h = cc

-- ---- truth values behind a flag

flag-keeps : (s : Supply) (e f : Ex) → (if asks_truth e then and_then (lookup_behind_flag e) (λ l. select_whole s.one l e) else None) ≡
    Some f → (env : Env) → ArgumentTold e env → Keeps e f env
flag-keeps s (node_ex true op es) f q env c m = go (lookup_behind_flag (node_ex true op es)) refl q
  where
    go : (o : Option Ex) → lookup_behind_flag (node_ex true op es) ≡ o → and_then o (λ l. select_whole s.one l (node_ex true op es)) ≡ Some f →
        (meaning (node_ex true op es) env ≡ meaning f env) × Meets f env
    go None p q = cc
    go (Some l) p q = select_whole-keeps s.one l (node_ex true op es) f q env
        (looks (lookup_behind_flag (node_ex true op es)) (node_ex false op es) l env (behind_flag-looked (node_ex true op es) env c m) p, tt) m
flag-keeps s (node_ex false op es) f q env c m = cc
flag-keeps s _ f q env c m = cc

-- ---- what is picked

abbrev number_or : Option (ℕ × Ex) → ℕ
number_or None = zero
number_or (Some p) = p.0

abbrev tree_or : Option (ℕ × Ex) → Option Ex
tree_or None = None
tree_or (Some p) = Some p.1

-- The operand that is picked first, by its number.
picked-nth : (g : Names Ty) (j : ℕ) (es : Exs) (k : ℕ) (e : Ex) → first_picked g (suc j) es ≡ Some (k, e) →
    (i : ℕ) × (k ≡ suc (j + i)) × (nth es (suc i) ≡ Some e)
picked-nth g j no_exs k e q = cc
picked-nth g j (more_exs a es) k e q = go (picks a && is_parted (type_of a g)) q (λ p. picked-nth g (suc j) es k e p)
  where
    go : (b : Bool) → (if b then Some (suc j, a) else first_picked g (suc (suc j)) es) ≡ Some (k, e) →
        (first_picked g (suc (suc j)) es ≡ Some (k, e) → (i : ℕ) × (k ≡ suc (suc j + i)) × (nth es (suc i) ≡ Some e)) →
        (i : ℕ) × (k ≡ suc (j + i)) × (nth (more_exs a es) (suc i) ≡ Some e)
    go true q h = (zero, sym (ap number_or q) ∙ (let n : suc j ≡ suc (j + zero) = omega arith in n), ap tree_or q)
    go false q h = let t = h q in (suc t.0, t.1 ∙ (let n : suc (suc j + t.0) ≡ suc (j + suc t.0) = omega arith in n), t.2)

over-picked : (s : Supply) (g : Names Ty) (e f : Ex) → over_picked s g e ≡ Some f → (env : Env) → Typed g env → Unused s.one e →
    PickedAsks s g e env → RootFits e env → Keeps e f env
over-picked s g (node_ex b op es) f q env t u c r m = at (first_picked g 1 es) refl q c
  where
    At : Type 0
    At = (meaning (node_ex b op es) env ≡ meaning f env) × Meets f env

    made : (k : ℕ) (a : Ex) (l : List Alternative) → nth es k ≡ Some a → select_each s.one k l (node_ex b op es) ≡ Some f →
        (Meets a env → LookedBy a l env) → At
    made k a l n q h = go (is_plain op && is_some (nth es k)) refl q
      where
        go : (d : Bool) → is_plain op && is_some (nth es k) ≡ d → select_each s.one k l (node_ex b op es) ≡ Some f → At
        go true p q = select_each-keeps s.one k l (node_ex b op es) f q u env (
          subst (λ o. LooksUpEach o l env) (sym n) (h (nth-met es k a env n
              (subst (λ g. MeetsAll g es env) (unguarded (guards op) (and-left (not (guards op)) _ (and-left (is_plain op) _ p))) m))),
          r,
        ) m
        go false p q = no-answer (sym (ap (λ d. if d then Some f else None) p)) q
          where
            no-answer : {B : Type 0} → None ≡ (if is_plain op && is_some (nth es k) then Some f else None) →
                select_each s.one k l (node_ex b op es) ≡ Some f → B
            no-answer w q = cc

    at : (o : Option (ℕ × Ex)) → first_picked g 1 es ≡ o →
        and_then o (λ p. and_then (looked_up g s.third (s.other ∷ s.parts) p.1) (λ l. select_each s.one p.0 l (node_ex b op es))) ≡ Some f →
        OfSome o (λ p. IsTrue (not (asks_truth p.1)) × LookupAsks g s.third (s.other ∷ s.parts) p.1 env) → At
    at None p q c = cc
    at (Some (k, a)) p q c = let n = picked-nth g 0 es k a p in
        go (looked_up g s.third (s.other ∷ s.parts) a) refl q
        (ap (nth es) (n.1 ∙ (let z : suc (0 + n.0) ≡ suc n.0 = omega arith in z)) ∙ n.2)
      where
        go : (o : Option (List Alternative)) → looked_up g s.third (s.other ∷ s.parts) a ≡ o →
            and_then o (λ l. select_each s.one k l (node_ex b op es)) ≡ Some f → nth es k ≡ Some a → At
        go None y q n = cc
        go (Some l) y q n = made k a l n q (λ h. subst (λ z. LookedBy z l env) (unmarked-itself a c.0)
            (terms-looked-up.at_any_depth g s.third (s.other ∷ s.parts) a l y env t c.1 h))
over-picked s g _ f q env t u c r m = cc

scalar-keeps : (s : Supply) (g : Names Ty) (e f : Ex) →
    and_then (looked_up g s.third (s.other ∷ s.parts) e) (λ l. select_whole_each s.one l e) ≡ Some f → (env : Env) → Typed g env →
    LookupAsks g s.third (s.other ∷ s.parts) e env → RootFits e env → Keeps e f env
scalar-keeps s g e f q env t c r m = go (looked_up g s.third (s.other ∷ s.parts) e) refl q
  where
    whole : (e : Ex) (l : List Alternative) → select_whole_each s.one l e ≡ Some f → LookedBy (unmarked e) l env → RootFits e env →
        Keeps e f env
    whole (node_ex b op es) l q k r = select_whole_each-keeps s.one l (node_ex b op es) f q env (k, r)
    whole _ l q k r = cc

    go : (o : Option (List Alternative)) → looked_up g s.third (s.other ∷ s.parts) e ≡ o →
        and_then o (λ l. select_whole_each s.one l e) ≡ Some f → (meaning e env ≡ meaning f env) × Meets f env
    go None p q = cc
    go (Some l) p q = whole e l q (terms-looked-up.at_any_depth g s.third (s.other ∷ s.parts) e l p env t c m) r m

-- ---- each rule

each-keeps : (s : Supply) (g : Names Ty) (r : KindRule) (e f : Ex) → kind_rewrite s g r e ≡ Some f → (env : Env) → Typed g env →
    KindAsks s g r e env → Keeps e f env
each-keeps s g cell_of_an_atom e f q env t c = atom_cell-keeps e f q env c
each-keeps s g component_of_a_view e f q env t c = components-keep e f q (of-fired (component_view e) f (FitsMark e) q c.0) env c.1
each-keeps s g truth_in_a_matrix e f q env t c = let p = (under-test (asks_truth e) (item_view e) f q).1 in
    items-keep e f p (of-fired (item_view e) f (FitsMark e) p c.0) env c.1
each-keeps s g asked_of_its_child e f q env t c = asked_of_child-keeps e f q env c
each-keeps s g over_a_view e f q env t c = parts-keep s e f q env c.0 c.1
each-keeps s g of_one_view e f q env t c = alone-keeps s e f q env c
each-keeps s g member_at_a_cell e f q env t c = member_by_cell-keeps e f q env c
each-keeps s g member_of_a_multiset e f q env t c = multiset_member-keeps s.one e f q c.0 env c.1
each-keeps s g argument_with_a_flag e f q env t c = defined_where_flagged-keeps e f q env c
each-keeps s g member_of_a_part e f q env t c = is_participant-keeps s.one e f q c env
each-keeps s g size_at_the_marker e f q env t c = size_by_marker-keeps e f q env
each-keeps s g size_of_slots e f q env t c = size_by_slots-keeps (slots_of_operand e) e f q env c
each-keeps s g size_of_a_multiset e f q env t c = size-keeps s.one (slots_of_operand e) e f q c.0 env c.1
each-keeps s g size_of_a_function e f q env t c = function_size-keeps e f q env c
each-keeps s g size_of_the_parts e f q env t c = number_of_parts-keeps e f q env
each-keeps s g frequency_by_cells e f q env t c = frequency-keeps s.one (slots_of_operand e) e f q c.0 env c.1 c.2
each-keeps s g lie_together e f q env t c = are_together-keeps s.one s.other (partitioned_second e) e f q env c.0 c.1 c.2 c.3
each-keeps s g party_by_number e f q env t c = partition_party-keeps (partitioned_second e) e f q env c
each-keeps s g truth_at_an_argument e f q env t c =
    result_at_argument-keeps e f (under-test (asks_truth e) (result_at_argument e) f q).1 env c
each-keeps s g truth_behind_a_flag e f q env t c = flag-keeps s e f q env c
each-keeps s g of_what_is_picked e f q env t c = over-picked s g e f q env t c.0 c.1 c.2
each-keeps s g picked e f q env t c = scalar-keeps s g e f (under-test (picks e && not (is_parted (type_of e g)))
    (and_then (looked_up g s.third (s.other ∷ s.parts) e) (λ l. select_whole_each s.one l e)) f q).1 env t c.0 c.1

-- The first that fires.
first-keeps : (s : Supply) (g : Names Ty) (rs : List KindRule) (e f : Ex) → first_of_kinds s g rs e ≡ Some f → (env : Env) → Typed g env →
    KindsFit s g rs e env → Keeps e f env
first-keeps s g [] e f q env t c = cc
first-keeps s g (r ∷ rs) e f q env t c = go (kind_rewrite s g r e) refl q c.0 (λ p. first-keeps s g rs e f p env t c.1)
  where
    go : (o : Option Ex) → kind_rewrite s g r e ≡ o → or_else o (first_of_kinds s g rs e) ≡ Some f →
        (IsTrue (is_some (kind_rewrite s g r e)) → KindAsks s g r e env) → (first_of_kinds s g rs e ≡ Some f → Keeps e f env) → Keeps e f env
    go None p q c h = h q
    go (Some a) p q c h = each-keeps s g r e f (p ∙ q) env t (c (ap is_some p))

-- What they keep.
pub kind-rules-keep : KindRulesKeep
kind-rules-keep = record { each = each-keeps; together = λ s g e f q env t c. first-keeps s g kind_rules e f q env t c }
