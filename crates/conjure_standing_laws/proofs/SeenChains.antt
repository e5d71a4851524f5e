-- Rules lead from trees over views of sets to such trees that mean the same, one rule at a part after the other.
use Rattle.std.proofs.Common.{◌≡◌, refl, sym, ap, ◌∙◌, subst, ◌⊎◌, inl, inr, ℕ, suc, ◌≤◌, ◌<◌, ◌^◌, le_refl, Bool, true, false, not, [], Option, Some, None, List, arith}
use Rattle.std.specs.Prelude.{IsTrue, is_some}
use Rattle.ess_semantics.specs.Values.{Text}
use Rattle.ess_semantics.specs.Names.{Names, look}
use Rattle.ess_semantics.specs.Trees.{Ex}
use Rattle.ess_semantics.specs.Typed.{Typed}
use Rattle.ess_semantics.specs.Meaning.{Env, meaning}
use Rattle.ess_semantics.specs.Meets.{Meets}
use Rattle.ess_semantics.specs.Order.{same_text}
use Rattle.ess_semantics.specs.Substitution.{NamesAre}
use Rattle.ess_semantics.specs.Kept.{Keeps}
use Rattle.ess_semantics.specs.Contexts.{In, fill, Where}
use Rattle.ess_semantics.specs.NamesAt.{names_at}
use Rattle.ess_rules_laws.proofs.Kept.{where-stays}
use Rattle.ess_rules_laws.proofs.Places.{where-join, where-map}
use Rattle.ess_rules_laws.proofs.KeptUnder.{step-here}
use Rattle.ess_refine_laws.specs.AllRules.{Rule, rewrite}
use Rattle.ess_refine_laws.specs.ScopesStay.{Scope, scope_at, is_outside_views}
use Rattle.ess_values_along_laws.specs.Valued.{Valued}
use Rattle.ess_values_along_laws.specs.ValuesAlong.{natural_at, KeepsValues}
use Rattle.ess_values_along_laws.proofs.ValuesAlong.{values-along}
use Rattle.ess_valued_chains_laws.proofs.Parts.{valued-part, met-part}
use Rattle.conjure_model_laws.specs.ToldApart.{reserved}
use Rattle.ess_depth_laws.specs.Below.{is_below, HasNamesBelow}
use Rattle.ess_depth_laws.specs.Laws.{DepthsAreBounded}
use Rattle.ess_seen_laws.specs.Seen.{Bound, bound_types, Seen}
use Rattle.ess_seen_laws.specs.SeenParts.{AllBound, Part, scalar_part, set_part, list_part, still_part}
use Rattle.ess_seen_laws.specs.Filled.{InSlots, AreFilled}
use Rattle.ess_seen_laws.specs.Laws.{PartsOfSeenTrees, SetsStayAsTheyAre}
use Rattle.ess_seen_laws.specs.MayFire.{may_fire, CountsMembers}
use Rattle.ess_seen_laws.specs.Apart.{Apart}
use Rattle.ess_seen_stays_laws.specs.ess_seen_everywhere_laws.Laws.{IsFilled}
use Rattle.ess_seen_ended_laws.specs.Laws.{SeenTreesEnd}
use Rattle.ess_seen_rules_laws.specs.Laws.{FewRulesFire}
use Rattle.ess_seen_stays_laws.specs.Laws.{StaysSeen as RulesLeaveSeen}
use Rattle.ess_seen_values_laws.specs.Laws.{IsMet, StaysAlike, SeenRulesKeep, PartsOfSeenTrees as PartsAreTyped}
use Rattle.ess_seen_names_laws.specs.Laws.{none, KeepsNames, SeenRulesKeepNames, NamesAtParts}
use Rattle.conjure_modelling.specs.ess_rules.Ruled.{IsRuled, Ruling, plainly, by_kind, gathering, in_order, by_number, MayRule, supply_at, ruled}
use Rattle.conjure_modelling.specs.ess_refine.Chains.{as_it_was, led_at, Leads}
use Rattle.conjure_standing_laws.specs.SeenLaws.{IsSeenWhole, StaysSeen, SeenTreesStaySeen}
use Rattle.ess_seen_settled_laws.proofs.Roots.{scalar-stays, set-stays, list-stays, still-stays}
use Rattle.conjure_standing_laws.proofs.Rulings.{counts-none, none-ruled, at-itself}
use Rattle.conjure_standing_laws.proofs.BoundNames.{bound-type, absurd-both, isnt-bound}
use Rattle.conjure_standing_laws.proofs.Counters.{rule-up, chain-up}
use Rattle.conjure_standing_laws.proofs.Covered.{known-at}

no-tree : {e : Ex} → None ≡ Some e → ⊥
no-tree q = cc

no-typed : (env : Env) → Typed [] env
no-typed env a t v p q = cc

no-slots : (env : Env) → InSlots [] env
no-slots env a b q = cc

-- What reads no name but tables is so wherever the context of a part holds.
filled-there : (cells : Text → Option (Bool × List ℕ)) (c : In) (env : Env) → AreFilled cells env → Where c env (AreFilled cells)
filled-there cells c env f = where-stays (AreFilled cells)
    (λ x v here k n ks q is s. let w = k n ks q is s in record { table = w.table; found = w.found; cell = w.cell; there = w.there }) c env f

less : (a b c : ℕ) → a ≤ b → b ≤ c → a ≤ c
less a b c p q = omega (arith, p, q)

below : (s j : ℕ) → suc s ≤ j → j ≤ 2 ^ 64 → s < 2 ^ 64
below s j p q = omega (arith, p, q)

first-below : (s j : ℕ) → suc s ≤ j → s < j
first-below s j p = omega (arith, p)

-- What is known of rules in such trees.
pub record Known : Type 0 where
  pub parts : PartsOfSeenTrees
  pub same : SetsStayAsTheyAre
  pub ends : SeenTreesEnd
  pub few : FewRulesFire
  pub leave : RulesLeaveSeen
  pub keep : SeenRulesKeep
  pub typed : PartsAreTyped
  pub names : SeenRulesKeepNames
  pub places : NamesAtParts
  pub depths : DepthsAreBounded

module _ (K : Known) (cells : Text → Option (Bool × List ℕ)) where
  -- ---- nothing, and one chain behind another one

  itself : (n k : ℕ) (e : Ex) (m : Bool) → n ≤ k → IsSeenWhole cells n e m → StaysSeen cells k e e m
  itself n k e m l w = record {
    whole = record { seen = w.seen; named = record { scoped = w.named.scoped; names = K.places.later n k e l w.named.names } };
    kept = λ env p a t v. (refl, t, v);
    spells = λ q z o d h. h;
    ended = K.ends cells e m w.seen;
  }

  chained : (j k : ℕ) (a b c : Ex) (m : Bool) → StaysSeen cells j a b m → StaysSeen cells k b c m → StaysSeen cells k a c m
  chained j k a b c m x y = record {
    whole = y.whole;
    kept = λ env p a t v. let k = x.kept env p a t v in let l = y.kept env p a k.1 k.2 in (k.0 ∙ l.0, l.1, l.2);
    spells = λ q z o d h. y.spells q z o d (x.spells q z o d h);
    ended = y.ended;
  }

  -- ---- one rule at a part

  -- No name is around the whole.
  abbrev outermost : Scope
  outermost = record { all = none; over_domains = none }

  -- A part c of a whole, around which the names t are bound, and the names that a rule takes there.
  module _ (n s j : ℕ) (c : In) (t : Names Bound) (a b : Ex) (m k : Bool) (W : IsSeenWhole cells n (fill c a) m) (low : n ≤ s)
      (up : suc s ≤ j) (high : j ≤ 2 ^ 64) (outside : is_outside_views c ≡ true) (types : names_at c [] ≡ bound_types t)
      (known : (u v : Text → Bool) → NamesAre u v (fill c a) → AllBound v [] → AllBound v t)
      (slots : (env : Env) → InSlots [] env → Where c env (InSlots t)) (h : Seen cells t a k)
      (again : (f : Ex) → Seen cells t f k → Seen cells [] (fill c f) m) where
    below-s : HasNamesBelow s (fill c a)
    below-s = K.places.later n s (fill c a) low W.named.names

    there : HasNamesBelow s a
    there = K.places.of_a_part s c a below-s

    covers : (x : Text) (y : Bound) → look t x ≡ Some y → (scope_at c outermost).all x ≡ true
    covers x y q = known-at c [] outermost outside (λ z w. cc) x
        (ap is_some (ap (λ g. look g x) types ∙ bound-type t x y q))

    new : look t (reserved s) ≡ None
    new = isnt-bound (look t (reserved s)) (λ q.
        let p : IsTrue (is_below s (reserved s)) = known (is_below s) (is_below s) below-s (λ z w. cc) (reserved s) q in
        absurd-both (is_below s (reserved s)) p (K.depths.spared s s (le_refl s) (below s j up high)))

    unbound : NamesAre (λ x. true) (λ x. not (same_text (reserved s) x)) a
    unbound = K.places.unbound s s a there (le_refl s) (below s j up high)

    apart : Apart (reserved s) t a
    apart = record {
      declared = none;
      scope = (scope_at c outermost).all;
      ranging = (scope_at c outermost).over_domains;
      scoped = K.typed.scoped none c outermost a outside W.named.scoped;
      covers = covers;
      new = new;
      unused = K.places.unused s s a there (le_refl s) (below s j up high);
      unbound = unbound;
    }

    -- What a rule makes of the part.
    record Made : Type 0 where
      seen : Seen cells t b k
      keeps : KeepsNames (reserved s) a b
      alike : (env : Env) → IsMet cells t a env → (w : Bool) → Valued w a env → StaysAlike w a b env

    made-plainly : (i : ℕ) (u : Rule) → may_fire u ≡ true → rewrite (supply_at s i) (bound_types t) u a ≡ Some b → Made
    made-plainly i u f q = record {
      seen = K.leave.plainly cells (supply_at s i) t u a b k h apart f q;
      keeps = K.names.kept (reserved s) a b (K.names.plainly cells (supply_at s i) t u a b k h f q);
      alike = K.keep.plainly cells (supply_at s i) t u a b k h apart f q;
    }

    -- The rule may be used there.
    may-fire : (u : Rule) → MayRule (bound_types t) (plainly u) a → (may_fire u ≡ true) ⊎ CountsMembers (bound_types t) u a →
        may_fire u ≡ true
    may-fire u p (inl f) = f
    may-fire u p (inr c) = absurd (counts-none (bound_types t) u a c p)

    made : (i : ℕ) (u : Ruling) → MayRule (bound_types t) u a → ruled (supply_at s i) (bound_types t) u a ≡ Some b → Made
    made i (plainly u) p q = made-plainly i u (may-fire u p (K.few.plainly cells (supply_at s i) t u a b k h q)) q
    made i (by_kind u) p q =
        let f = K.few.by_kind cells (supply_at s i) t u a b k h q in record {
          seen = K.leave.by_kind cells (supply_at s i) t u a b k h apart f q;
          keeps = K.names.kept (reserved s) a b (K.names.by_kind cells (supply_at s i) t u a b k h f q);
          alike = K.keep.by_kind cells (supply_at s i) t u a b k h apart f q;
        }
    made i gathering p q = absurd (no-tree (sym (K.few.gathering cells t a k h) ∙ q))
    made i (in_order u) p q = absurd (no-tree (sym (K.few.in_order cells (supply_at s i) t u a k h) ∙ q))
    made i (by_number u) p q = absurd (no-tree (sym (K.few.by_number cells (supply_at s i) t u a k h) ∙ q))

    module _ (M : Made) where
      -- Wherever the context of the part holds.
      module _ (env : Env) (positions : IsTrue env.positions) (filled : AreFilled cells env) (met : Meets (fill c a) env)
          (valued : Valued false (fill c a) env) where
        abbrev w : Bool
        w = natural_at a c false

        typed-there : Where c env (Typed (bound_types t))
        typed-there = subst (λ g. Where c env (Typed g)) types (K.typed.typed cells [] c a m W.seen outside env
            (record {
              holds = record { typed = no-typed env; slots = no-slots env; filled = filled };
              positions = positions;
              met = met;
            }))

        holds-there : Where c env (IsFilled cells t)
        holds-there = where-join (λ e. Typed (bound_types t) e × InSlots t e) (AreFilled cells) (IsFilled cells t)
            (λ e p q. record { typed = p.0; slots = p.1; filled = q }) c env
            (where-join (Typed (bound_types t)) (InSlots t) (λ e. Typed (bound_types t) e × InSlots t e) (λ e p q. (p, q)) c env
            typed-there (slots env (no-slots env)))
            (filled-there cells c env filled)

        met-there : Where c env (IsMet cells t a)
        met-there = where-join (λ e. IsFilled cells t e × IsTrue e.positions) (Meets a) (IsMet cells t a)
            (λ e p q. record { holds = p.0; positions = p.1; met = q }) c env
            (where-join (IsFilled cells t) (λ e. IsTrue e.positions) (λ e. IsFilled cells t e × IsTrue e.positions)
            (λ e p q. (p, q)) c env holds-there (K.typed.positions c env positions)) (met-part a c env met)

        alike-there : Where c env (StaysAlike w a b)
        alike-there = where-join (IsMet cells t a) (Valued w a) (StaysAlike w a b) (λ e p q. M.alike e p w q) c env met-there
            (valued-part a c false env outside valued)

        values : KeepsValues false (fill c a) (fill c b) env
        values = values-along.at_a_part c false a b env outside
            (where-map c env (StaysAlike w a b) (KeepsValues w a b) (λ e p. (p.means, λ v. p.valued)) alike-there)

        still-met : Meets (fill c b) env
        still-met = (step-here c a b env
            (where-map c env (StaysAlike w a b) (Keeps a b) (λ e p n. (p.means, p.met)) alike-there) met).1

        whole-kept : (meaning (fill c a) env ≡ meaning (fill c b) env) × Meets (fill c b) env × Valued false (fill c b) env
        whole-kept = (values.0, still-met, values.1 valued)

      one-made : StaysSeen cells j (fill c a) (fill c b) m
      one-made = record {
        whole = record {
          seen = again b M.seen;
          named = K.places.one_rule s j c a b outside M.keeps (first-below s j up) high
              (record { scoped = W.named.scoped; names = below-s });
        };
        kept = whole-kept;
        spells = K.places.spells c (reserved s) a b M.keeps;
        ended = K.ends cells (fill c b) m (again b M.seen);
      }

  -- Whatever the part is.
  by-part : (n s j : ℕ) (c : In) (t : Names Bound) (a b : Ex) (m : Bool) → IsSeenWhole cells n (fill c a) m → n ≤ s → suc s ≤ j →
      j ≤ 2 ^ 64 → names_at c [] ≡ bound_types t →
      ((u v : Text → Bool) → NamesAre u v (fill c a) → AllBound v [] → AllBound v t) →
      ((env : Env) → InSlots [] env → Where c env (InSlots t)) → (o : Bool) → is_outside_views c ≡ o →
      Part cells (λ f. Seen cells [] (fill c f) m) o t a → IsRuled s (names_at c []) a b j → StaysSeen cells j (fill c a) (fill c b) m
  by-part n s j c t a b m W low up high types known slots o q (scalar_part k h again) i =
      one-made n s j c t a b m k W low up high q types known slots h again
      (made n s j c t a b m k W low up high q types known slots h again i.count i.rule (subst (λ g. MayRule g i.rule a) types i.may)
      (subst (λ g. ruled (supply_at s i.count) g i.rule a ≡ Some b) types
      (at-itself s (names_at c []) a b j i (scalar-stays cells K.same h))))
  by-part n s j c t a b m W low up high types known slots o q (set_part k h) i =
      absurd (no-tree (sym (none-ruled a (K.few.at_a_set cells t a k h) (supply_at s i.count) (names_at c []) i.rule)
      ∙ at-itself s (names_at c []) a b j i (set-stays cells K.same h)))
  by-part n s j c t a b m W low up high types known slots o q (list_part k h) i =
      absurd (no-tree (sym (none-ruled a (K.few.at_a_list cells t a k h) (supply_at s i.count) (names_at c []) i.rule)
      ∙ at-itself s (names_at c []) a b j i (list-stays cells K.same h)))
  by-part n s j c t a b m W low up high types known slots o q (still_part h) i =
      absurd (no-tree (sym (none-ruled a (K.few.at_a_still_part t a h) (supply_at s i.count) (names_at c []) i.rule)
      ∙ at-itself s (names_at c []) a b j i (still-stays h)))

  one-turn : (n s j : ℕ) (c : In) (a b : Ex) (m : Bool) → IsSeenWhole cells n (fill c a) m → n ≤ s → j ≤ 2 ^ 64 →
      IsRuled s (names_at c []) a b j → StaysSeen cells j (fill c a) (fill c b) m
  one-turn n s j c a b m W low high i =
      let q = K.parts cells [] c a m W.seen in
      by-part n s j c q.around a b m W low (rule-up s j (names_at c []) a b i) high q.types q.known q.slots (is_outside_views c) refl
      q.part i

  -- ---- a chain

  -- So it is along a chain.
  pub stay-seen : (n k : ℕ) (old last : Ex) (m : Bool) → IsSeenWhole cells n old m → Leads IsRuled n [] old last k → k ≤ 2 ^ 64 →
      StaysSeen cells k old last m
  stay-seen n k old last m W (as_it_was p) high = itself n k old m p W
  stay-seen n k old last m W (led_at {s = s} {k = j} {a = a} {b = b} c p i w) high =
      let x = one-turn n s j c a b m W p (less j k (2 ^ 64) (chain-up j k [] (fill c b) last w) high) i in
      chained j k (fill c a) (fill c b) last m x (stay-seen j k (fill c b) last m x.whole w high)

-- What is proved of chains in such trees, by the laws of rules in them.
pub seen-by : PartsOfSeenTrees → SetsStayAsTheyAre → SeenTreesEnd → FewRulesFire → RulesLeaveSeen → SeenRulesKeep → PartsAreTyped →
    SeenRulesKeepNames → NamesAtParts → DepthsAreBounded → SeenTreesStaySeen
seen-by parts same ends few leave keep typed names places depths cells n k old last m W w high =
    stay-seen (record {
      parts = parts;
      same = same;
      ends = ends;
      few = few;
      leave = leave;
      keep = keep;
      typed = typed;
      names = names;
      places = places;
      depths = depths;
    }) cells n k old last m W w high
