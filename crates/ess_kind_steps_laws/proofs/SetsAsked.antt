-- Rules of views of sets have what they count on, and keep what they rewrite.
use Rattle.std.proofs.Common.{◌≡◌, refl, sym, ap, ◌∙◌, subst, Bool, true, false, ◌||◌, not, List, [], ◌∷◌, Option, Some, None, option_map}
use Rattle.std.specs.Prelude.{IsTrue, is_some}
use Rattle.std.specs.List.{list_all}
use Rattle.ess_semantics.specs.declared.words.Op1.{Op1}
use Rattle.ess_semantics.specs.declared.words.Op2.{Op2}
use Rattle.ess_semantics.specs.declared.words.Fun.{Fun}
use Rattle.ess_semantics.specs.declared.words.ReprKind.{ReprKind}
use Rattle.ess_semantics.specs.Lists.{and_then, all_some}
use Rattle.ess_semantics.specs.Values.{Text, a_set, Value}
use Rattle.ess_semantics.specs.Collections.{holds}
use Rattle.ess_semantics.specs.Order.{same, same_text}
use Rattle.ess_semantics.specs.Names.{Names}
use Rattle.ess_semantics.specs.Trees.{binary, word, name_pat, Mark, Repr, Reprs, repr, no_reprs, more_reprs, Ex, Exs, comp_ex, seen_ex, ex1, ex2, fun1, no_exs, more_exs, Gens, from, Dom, name_dom, set_dom}
use Rattle.ess_semantics.specs.Types.{Ty, any_ty, bool_ty, compound1, join, type_of_dom}
use Rattle.ess_semantics.specs.OperatorTypes.{type_of_op}
use Rattle.ess_semantics.specs.Typing.{type_of}
use Rattle.ess_semantics.specs.Typed.{Typed}
use Rattle.ess_semantics.specs.TypeMembers.{is_of}
use Rattle.ess_semantics.specs.Domains.{member_list}
use Rattle.ess_semantics.specs.Membership.{member}
use Rattle.ess_semantics.specs.Tables.{code}
use Rattle.ess_semantics.specs.Meaning.{Env, meaning, members_in}
use Rattle.ess_semantics.specs.Meets.{Meets, MeetsDom}
use Rattle.ess_semantics.proofs.Orders.{same-equal}
use Rattle.ess_semantics.proofs.Tests.{and-left, and-right}
use Rattle.ess_rules_laws.specs.Rules.{Unused, Sound, OperandsThere}
use Rattle.ess_rules_laws.specs.Listings.{Alternative}
use Rattle.ess_rules_laws.specs.ListedSources.{laid_out}
use Rattle.ess_rules_laws.specs.SpliceRules.{NamesApart}
use Rattle.ess_rules_laws.specs.AtomViews.{AtomCounts}
use Rattle.ess_rules_laws.specs.FunctionKeys.{IsTold}
use Rattle.ess_rules_laws.specs.OccurrenceViews.{cell_of_member, member_by_cell, MemberTold}
use Rattle.ess_rules_laws.specs.SetSizes.{size_by_slots, SizeOf}
use Rattle.ess_refine_laws.specs.AllRules.{Supply, OfSome}
use Rattle.ess_guard_natural_laws.specs.TotalButNatural.{opens_places}
use Rattle.ess_values_along_laws.specs.Valued.{Valued}
use Rattle.ess_values_along_laws.proofs.ValuesAlong.{values-along}
use Rattle.ess_kind_rules_laws.specs.ViewListings.{listing_of, slots_of_operand}
use Rattle.ess_kind_rules_laws.specs.KindRules.{KindRule, cell_of_an_atom, over_a_view, of_one_view, member_at_a_cell, size_at_the_marker, size_of_slots, kind_rewrite}
use Rattle.ess_kinds_kept_laws.specs.ViewAsks.{ViewAsks}
use Rattle.ess_kinds_kept_laws.specs.KindAsks.{ViewApart, SourceAsks, KindAsks}
use Rattle.ess_kinds_kept_laws.proofs.KindRulesKeep.{kind-rules-keep}
use Rattle.ess_kind_sizes_laws.specs.SetRules.{is_of_sets}
use Rattle.ess_kind_sizes_laws.specs.ViewsBehind.{taken, put}
use Rattle.ess_kind_sizes_laws.proofs.SetListings.{OfEach, by-kind}
use Rattle.ess_kind_sizes_laws.proofs.ViewsBehind.{dummy-named, listings-of-sets-are-apart}
use Rattle.ess_kind_steps_laws.specs.JudgedItems.{JudgedSeen}
use Rattle.ess_kind_steps_laws.specs.SetsAtHand.{FoldAtHand, AtHand, SetRulesHaveWhatTheyAsk}
use Rattle.ess_kind_steps_laws.proofs.ToldAtoms.{Agreed, atom-told}
use Rattle.ess_kind_steps_laws.proofs.JudgedSets.{slots-are, AtomsThere, atoms-there, inner-there, dummy-is}

no : {A : Type 0} → false ≡ true → A
no h = cc

-- ---- listings

module _ (x z : Text) (zs : List Text) (ms : List Mark) (es : Exs) (d : Dom) (js : Exs) (env : Env) where
  -- The listing of a set of a judged domain has what it asks.
  abbrev Asked : ReprKind → Reprs → List Text → Alternative → Type 0
  Asked k rs ns a =
      JudgedSeen (repr k rs) (set_dom ms es d) env → MeetsDom (set_dom ms es d) env →
      Unused x (seen_ex (repr k rs) (set_dom ms es d) ns js) →
      ViewAsks x z zs (seen_ex (repr k rs) (set_dom ms es d) ns js) env

  each-asked : OfEach x ms es d js Asked
  each-asked = record {
    occurrences = λ n j m u. (u, inner-there ms es d (n ∷ []) js env j);
    all = λ r ns j m u. (u, slots-are (repr ReprKind.Explicit (more_reprs r no_reprs)) ms es d ns js env j m);
    marked = λ r n ns j m u.
        (u, slots-are (repr ReprKind.ExplicitVarSizeWithMarker (more_reprs r no_reprs)) ms es d (n ∷ ns) js env j m);
    flagged = λ r n ns j m u.
        (u, slots-are (repr ReprKind.ExplicitVarSizeWithFlags (more_reprs r no_reprs)) ms es d (n ∷ ns) js env j m);
    dummies = λ t j m u. (
      u,
      dummy-named (λ a. not (same_text x a)) (λ a. true) refl d u.0.1,
      slots-are (repr ReprKind.ExplicitVarSizeWithDummy no_reprs) ms es d (t ∷ []) js env j m,
      dummy-is ms es d (t ∷ []) js env j m.1,
    );
  }

module _ (s : Supply) (y : Text) (e : Ex) (hs : Gens) (env : Env) (m : Bool) (f : Fun) where
  -- A fold over a view of a set.
  abbrev Fold : Ex → Ex
  Fold t = fun1 m f (comp_ex e (from (name_pat y) t hs))

  each-apart : (t : Ex) (o : Option Alternative) → OfSome o (λ a. ViewAsks s.one s.other s.parts t env) →
      ((a : Alternative) → o ≡ Some a → (r : Text → Bool) × (u : Text → Bool)
      × NamesApart r u (comp_ex e (from (name_pat y) (laid_out a) hs))) →
      IsTrue (is_some (meaning t env)) → OfSome o (λ a. ViewApart s a t (Fold t) env)
  each-apart t None h k i = tt
  each-apart t (Some a) h k i = let n = k a refl in (n.0, n.1, (n.2, tt), i, h)

  fold-asked : (t : Ex) → FoldAtHand s y t e hs env → Unused s.one t → Meets t env → IsTrue (is_some (meaning t env)) →
      SourceAsks s (Fold t) env
  fold-asked (seen_ex (repr k rs) (set_dom ms es d) ns js) h u n i =
      each-apart (seen_ex (repr k rs) (set_dom ms es d) ns js) (listing_of k s.one s.other s.parts (seen_ex (repr k rs)
      (set_dom ms es d) ns js))
      (given (listing_of k s.one s.other s.parts (seen_ex (repr k rs) (set_dom ms es d) ns js))
      (by-kind s.one ms es d js (Asked s.one s.other s.parts ms es d js env) (each-asked s.one s.other s.parts ms es d js env)
      s.other s.parts k rs ns))
      (λ a q. (
        taken h.bound s.one,
        put h.scope s.one y,
        listings-of-sets-are-apart h.used h.scope h.bound s.one y s.other s.parts (seen_ex (repr k rs) (set_dom ms es d) ns js) e hs a q
            refl h.names,
      )) i
    where
      given : (o : Option Alternative) → OfSome o (Asked s.one s.other s.parts ms es d js env k rs ns) →
          OfSome o (λ a. ViewAsks s.one s.other s.parts (seen_ex (repr k rs) (set_dom ms es d) ns js) env)
      given None c = tt
      given (Some a) c = c h.judged n.1 u
  fold-asked _ h u n i = no h.view

-- ---- membership

-- A value that is held is one of the list.
held-member : (P : Value → Bool) (us : List Value) (v : Value) → list_all P us ≡ true → holds us v ≡ true → P v ≡ true
held-member P [] v h k = no k
held-member P (u ∷ us) v h k = go (same u v) refl k (λ q. held-member P us v (and-right (P u) (list_all P us) h) q)
  where
    go : (b : Bool) → same u v ≡ b → b || holds us v ≡ true → (holds us v ≡ true → P v ≡ true) → P v ≡ true
    go true q i r = ap P (sym (same-equal u v q)) ∙ and-left (P u) (list_all P us) h
    go false q i r = r i

there : {A : Type 0} (o : Option A) → IsTrue (is_some o) → (a : A) × (o ≡ Some a)
there None h = cc
there (Some a) h = (a, refl)

-- The type of the term agrees with that of the members.
pub agreed : (o : Option Ty) (d t : Ty) →
    and_then (all_some (o ∷ Some (compound1 a_set d) ∷ [])) (type_of_op (binary Op2.Member)) ≡ Some t →
    (u : Ty) × (o ≡ Some u) × Agreed u d
agreed None d t q = (any_ty, cc, cc)
agreed (Some u) d t q = (u, refl, go (join u d) q)
  where
    go : (p : Option Ty) → option_map (λ v. bool_ty) p ≡ Some t → is_some p ≡ true
    go None q = cc
    go (Some v) q = refl

positive : (b : Bool) → IsTrue b → b ≡ true
positive true h = refl
positive false h = h

-- A term with a value whose type agrees with that of the members of an atom is told by its number.
pub told-by : (g : Names Ty) (a : Ex) (d : Dom) (env : Env) → AtomsThere d env → Sound g a → Typed g env → IsTrue env.positions →
    IsTrue (is_some (meaning a env)) → (u : Ty) → type_of a g ≡ Some u → Agreed u (type_of_dom d) → IsTold (λ v. code v ∷ []) a d env
told-by g a d env c o h p i u q j =
    let v = there (meaning a env) i in
    record {
      value = v.0;
      members = member_list c.inner;
      is_value = v.1;
      are_members = ap members_in c.part ∙ c.listed;
      is_told = λ w k r. atom-told env.types d env c.inner c.is_atom_dom (positive env.positions p) c.part u j w v.0
          (held-member (member c.inner) (member_list c.inner) w c.held k)
          (subst (λ b. IsTrue (is_of b env.types u v.0)) (positive env.positions p) (o u q env h v.0 v.1)) (first-of r);
    }
  where
    first-of : {A : Type 0} {x y : A} → x ∷ [] ≡ y ∷ [] → x ≡ y
    first-of q = cc

member-told : (g : Names Ty) (a : Ex) (ms : List Mark) (es : Exs) (d : Dom) (n : Text) (js : Exs) (env : Env) →
    JudgedSeen (repr ReprKind.Occurrence no_reprs) (set_dom ms es d) env → Sound g a → Typed g env → IsTrue env.positions →
    IsTrue (is_some (meaning a env)) → (t : Ty) →
    type_of (ex2 true Op2.Member a (seen_ex (repr ReprKind.Occurrence no_reprs) (set_dom ms es d) (n ∷ []) js)) g ≡ Some t →
    IsTold (λ v. code v ∷ []) a d env
member-told g a ms es d n js env j o h p i t q =
    let u = agreed (type_of a g) (type_of_dom d) t q in told-by g a d env (atoms-there ms es d env j) o h p i u.0 u.1 u.2

-- ---- the rules

positions-count : (e : Ex) (env : Env) → IsTrue env.positions → AtomCounts e env
positions-count (seen_ex r (name_dom a) ns js) env p = p
positions-count _ env p = tt

member-asked : (s : Supply) (g : Names Ty) (e f : Ex) → member_by_cell e ≡ Some f → (env : Env) →
    AtHand s g member_at_a_cell e env → (w : Bool) → Valued w e env → MemberTold e env
member-asked s g (ex2 true Op2.Member a (seen_ex r (set_dom ms es d) ns js)) f q env h w v = go r ns q h v
  where
    go : (r : Repr) (ns : List Text) → cell_of_member (seen_ex r (set_dom ms es d) ns js) a ≡ Some f →
        AtHand s g member_at_a_cell (ex2 true Op2.Member a (seen_ex r (set_dom ms es d) ns js)) env →
        Valued w (ex2 true Op2.Member a (seen_ex r (set_dom ms es d) ns js)) env → IsTold (λ v. code v ∷ []) a d env
    go (repr ReprKind.Occurrence no_reprs) (n ∷ []) q h v =
        member-told g a ms es d n js env h.views.1 h.sound.0 h.held h.positions
        (and-left (is_some (meaning a env)) (list_all is_some
        (meaning (seen_ex (repr ReprKind.Occurrence no_reprs) (set_dom ms es d) (n ∷ []) js) env ∷ []))
        (values-along.operands w true (binary Op2.Member)
        (more_exs a (more_exs (seen_ex (repr ReprKind.Occurrence no_reprs) (set_dom ms es d) (n ∷ []) js) no_exs)) env refl refl v))
        h.type h.is_typed
    go (repr ReprKind.Occurrence no_reprs) [] q h v = cc
    go (repr ReprKind.Occurrence no_reprs) (n ∷ o ∷ ns) q h v = cc
    go (repr ReprKind.Occurrence (more_reprs r rs)) ns q h v = cc
    go (repr ReprKind.RelationAsMatrix no_reprs) ns q h v = cc
    go (repr ReprKind.RelationAsMatrix (more_reprs r rs)) ns q h v = cc
    go (repr _ rs) ns q h v = cc
member-asked s g (ex2 true Op2.Member a v) f q env h w i = no h.views.0
member-asked s g _ f q env h w v = cc

size-asked : (s : Supply) (g : Names Ty) (e f : Ex) → size_by_slots (slots_of_operand e) e ≡ Some f → (env : Env) →
    AtHand s g size_of_slots e env → Meets e env → SizeOf (slots_of_operand e) e env
size-asked s g (ex1 false Op1.Bar (seen_ex r (set_dom ms es d) ns js)) f q env h m =
    slots-are r ms es d ns js env h.views.1 m.0.1
size-asked s g (ex1 false Op1.Bar v) f q env h m = no h.views.0
size-asked s g _ f q env h m = cc

-- The operand of a word on a comprehension stands in no natural place.
word-opens : (w m : Bool) (f : Fun) → opens_places w m (word f) ≡ false
word-opens w true f = refl
word-opens true false f = refl
word-opens false false f = refl

source-there : (w m : Bool) (f : Fun) (y : Text) (t e : Ex) (hs : Gens) (env : Env) →
    Valued w (fun1 m f (comp_ex e (from (name_pat y) t hs))) env → IsTrue (is_some (meaning t env))
source-there w m f y t e hs env h =
    values-along.source (opens_places w m (word f)) e (from (name_pat y) t hs) env
    h.1.0

operands-there : (w m : Bool) (f : Fun) (l : Ex) (env : Env) → Valued w (fun1 m f l) env → OperandsThere (fun1 m f l) env
operands-there w m f l env h =
    values-along.operands w m (word f) (more_exs l no_exs) env refl (word-opens w m f) h

parts-asked : (s : Supply) (g : Names Ty) (e f : Ex) → kind_rewrite s g over_a_view e ≡ Some f → (env : Env) →
    AtHand s g over_a_view e env → (w : Bool) → Valued w e env → Meets e env → KindAsks s g over_a_view e env
parts-asked s g (fun1 m k (comp_ex e (from (name_pat y) t hs))) f q env h w v n = (
  fold-asked s y e hs env m k t h.views h.new.0.1.1 n.0.0 (source-there w m k y t e hs env v),
  operands-there w m k (comp_ex e (from (name_pat y) t hs)) env v,
)
parts-asked s g _ f q env h w v n = cc

alone-asked : (s : Supply) (g : Names Ty) (e f : Ex) → kind_rewrite s g of_one_view e ≡ Some f → (env : Env) →
    AtHand s g of_one_view e env → (w : Bool) → Valued w e env → Meets e env → KindAsks s g of_one_view e env
alone-asked s g (fun1 m k (comp_ex e (from (name_pat y) t hs))) f q env h w v n =
    fold-asked s y e hs env m k t h.views h.new.0.1.1 n.0.0 (source-there w m k y t e hs env v)
alone-asked s g _ f q env h w v n = cc

asked : (s : Supply) (g : Names Ty) (r : KindRule) (e f : Ex) → kind_rewrite s g r e ≡ Some f → is_of_sets r ≡ true → (env : Env) →
    AtHand s g r e env → (w : Bool) → Valued w e env → Meets e env → KindAsks s g r e env
asked s g cell_of_an_atom e f q i env h w v m = positions-count e env h.positions
asked s g over_a_view e f q i env h w v m = parts-asked s g e f q env h w v m
asked s g of_one_view e f q i env h w v m = alone-asked s g e f q env h w v m
asked s g member_at_a_cell e f q i env h w v m = member-asked s g e f q env h w v
asked s g size_at_the_marker e f q i env h w v m = tt
asked s g size_of_slots e f q i env h w v m = size-asked s g e f q env h m
asked s g _ e f q i env h w v m = no i

-- What is proved of them.
pub set-rules-have : SetRulesHaveWhatTheyAsk
set-rules-have = record {
  asked = asked;
  kept = λ s g r e f q i env h w v m. kind-rules-keep.each s g r e f q env h.held (asked s g r e f q i env h w v m) m;
}
