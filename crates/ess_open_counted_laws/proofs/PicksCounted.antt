-- Rules of what is picked keep what they rewrite, where there are values.
use Rattle.std.proofs.Common.{◌≡◌, refl, sym, ap, ◌∙◌, subst, ℕ, zero, suc, ◌+◌, Bool, true, false, ◌&&◌, ◌||◌, not, if◌then◌else◌, List, [], ◌∷◌, Option, Some, None, arith}
use Rattle.std.specs.Prelude.{IsTrue, is_some}
use Rattle.ess_semantics.specs.Lists.{and_then}
use Rattle.ess_semantics.specs.Values.{Text, Value}
use Rattle.ess_semantics.specs.Names.{Names}
use Rattle.ess_semantics.specs.Trees.{index, Op, Ex, Exs, node_ex, no_exs, more_exs}
use Rattle.ess_semantics.specs.Types.{Ty}
use Rattle.ess_semantics.specs.Typing.{type_of}
use Rattle.ess_semantics.specs.Typed.{Typed}
use Rattle.ess_semantics.specs.Contexts.{guards}
use Rattle.ess_semantics.specs.Meaning.{Env, meaning}
use Rattle.ess_semantics.specs.Meets.{Meets, MeetsAll}
use Rattle.ess_semantics.specs.Kept.{Keeps}
use Rattle.ess_semantics.proofs.Tests.{and-left}
use Rattle.ess_guard_natural_laws.specs.TotalButNatural.{opens_places}
use Rattle.ess_rules_laws.specs.Rules.{Unused, IsNumber}
use Rattle.ess_rules_laws.specs.LiteralRules.{nth}
use Rattle.ess_rules_laws.specs.Listings.{Alternative}
use Rattle.ess_rules_laws.specs.Lookups.{is_plain}
use Rattle.ess_rules_laws.specs.Progress.{is_parted}
use Rattle.ess_rules_laws.specs.AlternativeLookups.{LookedBy, LooksUpEach, select_each, select_whole_each, lookup_through_each}
use Rattle.ess_rules_laws.proofs.Lookups.{unguarded}
use Rattle.ess_rules_laws.proofs.AlternativeSelections.{nth-met, select_whole_each-keeps}
use Rattle.ess_refine_laws.specs.AllRules.{Supply, OfSome}
use Rattle.ess_values_along_laws.specs.Valued.{Valued, AllValued}
use Rattle.ess_counted_more_laws.proofs.TypedValues.{number-there}
use Rattle.ess_kind_rules_laws.specs.TermLookups.{picks, picked_within, looked_up, looked_up_alone}
use Rattle.ess_kind_rules_laws.specs.KindRules.{asks_truth, over_picked, picked_scalar, first_picked as first_of_kinds}
use Rattle.ess_kinds_kept_laws.proofs.TermsLookedUp.{unmarked-itself, terms-looked-up}
use Rattle.ess_kinds_kept_laws.proofs.KindRulesKeep.{under-test}
use Rattle.ess_open_rules_laws.specs.OpenRules.{gives_scalar, is_compound_ty, compares_values, first_picked, over_a_pick, pick_alone}
use Rattle.ess_open_counted_laws.specs.PicksThere.{OperandThere, FitsOverThere}
use Rattle.ess_open_counted_laws.specs.LookupsBeside.{AloneBeside, LookupBeside}
use Rattle.ess_open_counted_laws.specs.PicksBeside.{RootTyped, PickBeside, PickedBeside, PicksAreCountedOn}
use Rattle.ess_open_counted_laws.proofs.PicksThere.{picks-there-keep}
use Rattle.ess_open_counted_laws.proofs.LookupsCounted.{picks-plain, picked-there, within, alone-asked, lookup-asked}

-- ---- the operand that is picked first

-- The first operand of which f is true, by its number.
abbrev first_by : (Ex → Bool) → ℕ → Exs → Option (ℕ × Ex)
first_by f k no_exs = None
first_by f k (more_exs e es) = if f e then Some (k, e) else first_by f (suc k) es

-- Among the rules of openings, and among those of kinds.
abbrev opens_pick : Bool → Names Ty → Ex → Bool
opens_pick any g e = picks e && (any || is_compound_ty (type_of e g))

abbrev parts_pick : Names Ty → Ex → Bool
parts_pick g e = picks e && is_parted (type_of e g)

first-opened : (any : Bool) (g : Names Ty) (k : ℕ) (es : Exs) → first_picked any g k es ≡ first_by (opens_pick any g) k es
first-opened any g k no_exs = refl
first-opened any g k (more_exs e es) = ap (λ o. if opens_pick any g e then Some (k, e) else o) (first-opened any g (suc k) es)

first-parted : (g : Names Ty) (k : ℕ) (es : Exs) → first_of_kinds g k es ≡ first_by (parts_pick g) k es
first-parted g k no_exs = refl
first-parted g k (more_exs e es) = ap (λ o. if parts_pick g e then Some (k, e) else o) (first-parted g (suc k) es)

abbrev number_or : Option (ℕ × Ex) → ℕ
number_or None = zero
number_or (Some p) = p.0

abbrev tree_or : Option (ℕ × Ex) → Option Ex
tree_or None = None
tree_or (Some p) = Some p.1

-- What is known of it: its number, and that f is true of it.
record PickedAt (f : Ex → Bool) (j : ℕ) (es : Exs) (k : ℕ) (e : Ex) : Type 0 where
  place : ℕ
  number : k ≡ suc (j + place)
  operand : nth es (suc place) ≡ Some e
  told : f e ≡ true

first-at : (f : Ex → Bool) (j : ℕ) (es : Exs) (k : ℕ) (e : Ex) → first_by f (suc j) es ≡ Some (k, e) → PickedAt f j es k e
first-at f j no_exs k e q = cc
first-at f j (more_exs a es) k e q = go (f a) refl q (λ p. first-at f (suc j) es k e p)
  where
    go : (b : Bool) → f a ≡ b → (if b then Some (suc j, a) else first_by f (suc (suc j)) es) ≡ Some (k, e) →
        (first_by f (suc (suc j)) es ≡ Some (k, e) → PickedAt f (suc j) es k e) → PickedAt f j (more_exs a es) k e
    go true r q h = record {
      place = zero;
      number = sym (ap number_or q) ∙ (let n : suc j ≡ suc (j + zero) = omega arith in n);
      operand = ap tree_or q;
      told = subst (λ o. OfSome o (λ z. f z ≡ true)) (ap tree_or q) r;
    }
    go false r q h = let t = h q in record {
      place = suc t.place;
      number = t.number ∙ (let n : suc (suc j + t.place) ≡ suc (j + suc t.place) = omega arith in n);
      operand = t.operand;
      told = t.told;
    }

nth-valued : (w : Bool) (es : Exs) (k : ℕ) (t : Ex) (env : Env) → nth es k ≡ Some t → AllValued false w es env → Valued w t env
nth-valued w no_exs k t env q v = cc
nth-valued w (more_exs a es) zero t env q v = cc
nth-valued w (more_exs a es) (suc zero) t env q v = subst (λ o. OfSome o (λ z. Valued w z env)) q v.0
nth-valued w (more_exs a es) (suc (suc n)) t env q v = nth-valued w es (suc n) t env q v.1

-- ---- an operator on what is picked

module _ (g : Names Ty) (env : Env) (typed : Typed g env) where
  -- What is picked is there.
  term-there : (w : Bool) (t : Ex) → picks t ≡ true → not (asks_truth t) ≡ true → Valued w t env → IsTrue (is_some (meaning t env))
  term-there w (node_ex false op es) p a v = picked-there env w op es p v
  term-there w (node_ex true op es) p a v = cc
  term-there w _ p a v = cc

  -- A root that is there has a number, unless it is Boolean.
  fits-over : (b : Bool) (op : Op) (es : Exs) → RootTyped g (node_ex b op es) → (o : Option Ex) → OperandThere o env →
      FitsOverThere b o (node_ex b op es) env
  fits-over true op es r o h = tt
  fits-over false op es r o h = (h, go (meaning (node_ex false op es) env) refl)
    where
      go : (o : Option Value) → meaning (node_ex false op es) env ≡ o → OfSome o (λ v. IsNumber (Some v))
      go None q = tt
      go (Some v) q = subst IsNumber q (number-there g env typed (node_ex false op es) r (ap is_some q))

  -- An operator on an operand that is there, and that alternatives look up.
  module _ (x : Text) (b : Bool) (op : Op) (es : Exs) (f : Ex) (new : Unused x (node_ex b op es)) (root : RootTyped g (node_ex b op es))
      (w : Bool) (v : Valued w (node_ex b op es) env) where
    abbrev Place : Ex → Type 0
    Place t = Valued (opens_places w b op) t env

    pub selected : (k : ℕ) (t : Ex) (l : List Alternative) → nth es k ≡ Some t → (Place t → Meets t env → LookedBy t l env) →
        (Place t → IsTrue (is_some (meaning t env))) → select_each x k l (node_ex b op es) ≡ Some f → Keeps (node_ex b op es) f env
    selected k t l n h i q m = picks-there-keep.of_an_operand x k l (node_ex b op es) f q new env (
      subst (λ o. LooksUpEach o l env) (sym n) (h valued (nth-met es k t env n (subst (λ z. MeetsAll z es env) behind m))),
      fits-over b op es root (nth es k) (subst (λ o. OperandThere o env) (sym n) (i valued)),
    ) m
      where
        plain : (d : Bool) (h : Ex) → is_plain op && is_some (nth es k) ≡ d → (if d then Some h else None) ≡ Some f → is_plain op ≡ true
        plain true h r u = and-left (is_plain op) (is_some (nth es k)) r
        plain false h r u = cc

        behind : guards op ≡ false
        behind = unguarded (guards op) (and-left (not (guards op)) _ (plain (is_plain op && is_some (nth es k)) _ refl q))

        valued : Place t
        valued = nth-valued (opens_places w b op) es k t env n (subst (λ z. AllValued z (opens_places w b op) es env) behind v.1)

  module _ (x z : Text) (ys : List Text) where
    -- The alternatives look up what isn't read as Boolean.
    pub term-looked : (t : Ex) (l : List Alternative) → looked_up g z ys t ≡ Some l → picks t ≡ true → not (asks_truth t) ≡ true →
        (w : Bool) →
        Valued w t env → LookupBeside g z ys t env → Meets t env → LookedBy t l env
    term-looked t l q p a w v c m = subst (λ y. LookedBy y l env) (unmarked-itself t a)
        (terms-looked-up.at_any_depth g z ys t l q env typed (lookup-asked g env typed z ys t p a w v c) m)

    module _ (b : Bool) (op : Op) (es : Exs) (f : Ex) (new : Unused x (node_ex b op es)) (root : RootTyped g (node_ex b op es)) (w : Bool)
        (v : Valued w (node_ex b op es) env) where
      over-first : (h : Ex → Bool) → ((e : Ex) → h e ≡ true → picks e ≡ true) →
          and_then (first_by h 1 es) (λ p. and_then (looked_up g z ys p.1) (λ l. select_each x p.0 l (node_ex b op es))) ≡ Some f →
          OfSome (first_by h 1 es) (λ p. IsTrue (not (asks_truth p.1)) × LookupBeside g z ys p.1 env) → Keeps (node_ex b op es) f env
      over-first h s q c = go (first_by h 1 es) refl q c
        where
          go : (o : Option (ℕ × Ex)) → first_by h 1 es ≡ o →
              and_then o (λ p. and_then (looked_up g z ys p.1) (λ l. select_each x p.0 l (node_ex b op es))) ≡ Some f →
              OfSome o (λ p. IsTrue (not (asks_truth p.1)) × LookupBeside g z ys p.1 env) → Keeps (node_ex b op es) f env
          go None p q c = cc
          go (Some (k, t)) p q c = let n = first-at h 0 es k t p in inner (looked_up g z ys t) refl q
              (ap (nth es) (n.number ∙ (let z : suc (0 + n.place) ≡ suc n.place = omega arith in z)) ∙ n.operand) (s t n.told)
            where
              inner : (o : Option (List Alternative)) → looked_up g z ys t ≡ o →
                  and_then o (λ l. select_each x k l (node_ex b op es)) ≡ Some f →
                  nth es k ≡ Some t → picks t ≡ true → Keeps (node_ex b op es) f env
              inner None r q n i = cc
              inner (Some l) r q n i = selected x b op es f new root w v k t l n
                  (λ v m. term-looked t l r i c.0 (opens_places w b op) v c.1 m) (λ v. term-there (opens_places w b op) t i c.0 v) q

-- ---- a picked scalar by itself

-- What is picked within stands first.
pub within-first : (b : Bool) (op : Op) (es : Exs) (t : Ex) → picked_within (node_ex b op es) ≡ Some t → nth es 1 ≡ Some t
within-first b (index (s ∷ [])) (more_exs u es) t q = go (picks u) q
  where
    go : (c : Bool) → (if c then Some u else None) ≡ Some t → Some u ≡ Some t
    go true q = q
    go false q = cc
within-first b _ es t q = cc

module _ (g : Names Ty) (env : Env) (typed : Typed g env) (x z : Text) where
  -- A truth value.
  truth-picked : (op : Op) (es : Exs) (f : Ex) → picks (node_ex true op es) ≡ true → (w : Bool) → Valued w (node_ex true op es) env →
      (y : Text) (us : List Text) → LookupBeside g z (y ∷ us) (node_ex true op es) env →
      and_then (looked_up g z (y ∷ us) (node_ex true op es)) (λ l. select_whole_each x l (node_ex true op es)) ≡ Some f →
      Keeps (node_ex true op es) f env
  truth-picked op es f p w v y us c q = go (picked_within (node_ex true op es)) refl q c
    where
      Root : Ex
      Root = node_ex true op es

      behind : guards op ≡ false
      behind = let r = picks-plain true op es p in r.behind

      apart : (o : Option (List Alternative)) → looked_up_alone g z y us Root ≡ o →
          and_then o (λ l. select_whole_each x l Root) ≡ Some f → AloneBeside g z us Root env → Keeps Root f env
      apart None r q c = cc
      apart (Some l) r q c = λ m. select_whole_each-keeps x l Root f q env
          (terms-looked-up.alone g z y us Root l r env typed (alone-asked g env typed z us w Root p v c) m, tt) m

      made : (t : Ex) (l : List Alternative) → picked_within Root ≡ Some t → looked_up g z us t ≡ Some l → (o : Option (List Alternative)) →
          lookup_through_each y 1 l Root ≡ o → and_then o (λ k. select_whole_each x k Root) ≡ Some f →
          Unused y Root × IsTrue (not (asks_truth t)) × LookupBeside g z us t env → Keeps Root f env
      made t l n r None h q c = cc
      made t l n r (Some k) h q c = λ m. let i = within env w Root t n p v in let j = within-first true op es t n in
          picks-there-keep.of_a_truth x y 1 l k Root f h q c.0 env (subst (λ o. LooksUpEach o l env) (sym j)
          (term-looked g env typed x z us t l r i.0 c.1 false i.1 c.2
          (nth-met es 1 t env j (subst (λ z. MeetsAll z es env) behind m)))) m

      through : (t : Ex) → picked_within Root ≡ Some t → (o : Option (List Alternative)) → looked_up g z us t ≡ o →
          and_then (and_then o (λ l. lookup_through_each y 1 l Root)) (λ l. select_whole_each x l Root) ≡ Some f →
          Unused y Root × IsTrue (not (asks_truth t)) × LookupBeside g z us t env → Keeps Root f env
      through t n None r q c = cc
      through t n (Some l) r q c = made t l n r (lookup_through_each y 1 l Root) refl q c

      go : (o : Option Ex) → picked_within Root ≡ o → and_then (elim o as (λ z. Option (List Alternative)) [
        | None ↦ looked_up_alone g z y us Root
        | Some t ↦ and_then (looked_up g z us t) (λ l. lookup_through_each y 1 l Root)
      ]) (λ l. select_whole_each x l Root) ≡ Some f → elim o as (λ z. Type 0) [
        | None ↦ AloneBeside g z us Root env
        | Some t ↦ Unused y Root × IsTrue (not (asks_truth t)) × LookupBeside g z us t env
      ] → Keeps Root f env
      go None n q c = apart (looked_up_alone g z y us Root) refl q c
      go (Some t) n q c = through t n (looked_up g z us t) refl q c

  -- Any scalar.
  scalar-keeps : (ys : List Text) (e f : Ex) → picks e ≡ true → RootTyped g e → LookupBeside g z ys e env → (w : Bool) → Valued w e env →
      and_then (looked_up g z ys e) (λ l. select_whole_each x l e) ≡ Some f → Keeps e f env
  scalar-keeps [] e f p r c w v q = cc
  scalar-keeps (y ∷ us) (node_ex true op es) f p r c w v q = truth-picked op es f p w v y us c q
  scalar-keeps (y ∷ us) (node_ex false op es) f p r c w v q = go (looked_up g z (y ∷ us) (node_ex false op es)) refl q
    where
      go : (o : Option (List Alternative)) → looked_up g z (y ∷ us) (node_ex false op es) ≡ o →
          and_then o (λ l. select_whole_each x l (node_ex false op es)) ≡ Some f → Keeps (node_ex false op es) f env
      go None h q = cc
      go (Some l) h q = λ m. select_whole_each-keeps x l (node_ex false op es) f q env (
        terms-looked-up.at_any_depth g z (y ∷ us) (node_ex false op es) l h env typed
            (lookup-asked g env typed z (y ∷ us) (node_ex false op es) p refl w v c) m,
        number-there g env typed (node_ex false op es) r (picked-there env w op es p v),
      ) m
  scalar-keeps (y ∷ us) _ f p r c w v q = cc

-- ---- each rule

over-a-pick : (s : Supply) (g : Names Ty) (e f : Ex) → over_a_pick s g e ≡ Some f → Unused s.one e → RootTyped g e → (env : Env) →
    Typed g env → PickBeside s g e env → (w : Bool) → Valued w e env → Keeps e f env
over-a-pick s g (node_ex b op es) f q new r env t c w v = over-first g env t s.one s.third s.parts b op es f new r w v
    (opens_pick (compares_values b op) g) (λ e h. and-left (picks e) _ h)
    (subst (λ o. and_then o (λ p. and_then (looked_up g s.third s.parts p.1) (λ l. select_each s.one p.0 l (node_ex b op es))) ≡ Some f)
    (first-opened (compares_values b op) g 1 es) (under-test (gives_scalar g (node_ex b op es))
    (and_then (first_picked (compares_values b op) g 1 es)
    (λ p. and_then (looked_up g s.third s.parts p.1) (λ l. select_each s.one p.0 l (node_ex b op es)))) f q).1)
    (subst (λ o. OfSome o (λ p. IsTrue (not (asks_truth p.1)) × LookupBeside g s.third s.parts p.1 env))
    (first-opened (compares_values b op) g 1 es) c)
over-a-pick s g _ f q new r env t c w v = cc

over-what-is-picked : (s : Supply) (g : Names Ty) (e f : Ex) → over_picked s g e ≡ Some f → Unused s.one e → RootTyped g e →
    (env : Env) → Typed g env → PickedBeside s g e env → (w : Bool) → Valued w e env → Keeps e f env
over-what-is-picked s g (node_ex b op es) f q new r env t c w v =
    over-first g env t s.one s.third (s.other ∷ s.parts) b op es f new r w v (parts_pick g) (λ e h. and-left (picks e) _ h)
    (subst (λ o. and_then o (λ p. and_then (looked_up g s.third (s.other ∷ s.parts) p.1) (λ l. select_each s.one p.0 l (node_ex b op es)))
    ≡ Some f) (first-parted g 1 es) q)
    (subst (λ o. OfSome o (λ p. IsTrue (not (asks_truth p.1)) × LookupBeside g s.third (s.other ∷ s.parts) p.1 env))
    (first-parted g 1 es) c)
over-what-is-picked s g _ f q new r env t c w v = cc

alone-pick : (s : Supply) (g : Names Ty) (e f : Ex) → pick_alone s g e ≡ Some f → RootTyped g e → (env : Env) → Typed g env →
    LookupBeside g s.third s.parts e env → (w : Bool) → Valued w e env → Keeps e f env
alone-pick s g e f q r env t c w v = let h = under-test (picks e && gives_scalar g e)
    (and_then (looked_up g s.third s.parts e) (λ l. select_whole_each s.one l e)) f q in
    scalar-keeps g env t s.one s.third s.parts e f (and-left (picks e) _ h.0) r c w v h.1

alone-picked : (s : Supply) (g : Names Ty) (e f : Ex) → picked_scalar s g e ≡ Some f → RootTyped g e → (env : Env) → Typed g env →
    LookupBeside g s.third (s.other ∷ s.parts) e env → (w : Bool) → Valued w e env → Keeps e f env
alone-picked s g e f q r env t c w v = let h = under-test (picks e && not (is_parted (type_of e g)))
    (and_then (looked_up g s.third (s.other ∷ s.parts) e) (λ l. select_whole_each s.one l e)) f q in
    scalar-keeps g env t s.one s.third (s.other ∷ s.parts) e f (and-left (picks e) _ h.0) r c w v h.1

-- What is proved of what is picked.
pub picks-are-counted-on : PicksAreCountedOn
picks-are-counted-on =
    record { of_a_pick = over-a-pick; a_pick_alone = alone-pick; of_what_is_picked = over-what-is-picked; picked = alone-picked }
