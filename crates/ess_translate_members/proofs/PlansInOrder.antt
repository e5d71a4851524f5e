-- The tables of plans over their domains, one plan after the other.
use Rattle.std.proofs.Common.{◌≡◌, refl, sym, ap, ◌∙◌, subst, ℕ, ◌+◌, ◌<◌, ◌≤◌, ◌==◌, Bool, true, false, if◌then◌else◌, List, [], ◌∷◌, ◌++◌, map, length, get_or, drop, Option, Some, None, option_map, append-nil, ne_eqb}
use Rattle.std.proofs.lemmas.List.{at_drop_more, at_drop_all}
use denote.Bor.{Bor}
use Rattle.ess_semantics.specs.Values.{Text}
use Rattle.ess_semantics.specs.Lists.{list_or_none}
use Rattle.ess_semantics.specs.Trees as pure
use Rattle.ess_semantics.specs.Domains.{Domain}
use Rattle.ess_semantics.specs.Declarations.{Declaration, declarations}
use Rattle.ess_semantics.specs.Plans as pure_plans
use Rattle.ess_semantics.specs.Plans.{givens_side, finds_side, same_side, size_plan, value_plan, from_one}
use Rattle.ess_semantics.specs.TableNames.{Named}
use Rattle.ess_eval_domains.specs.declared.closed.Closed.{Closed}
use Rattle.ess_eval_domains.specs.ClosedViews.{pure_closed}
use Rattle.ess_translate_plans.specs.declared.plans.Plan.{Plan}
use Rattle.ess_translate_plans.specs.Views.{pure_plan}
use Rattle.ess_translate_members_laws.specs.CellForms.{plain}
use Rattle.ess_translate_members_laws.specs.PlanDomains.{only_on, tables_on, tables_of_side}
use Rattle.ess_translate_cells.specs.declared.closing.ClosedTable.{ClosedTable}
use Rattle.ess_translate_cells.specs.ClosedTables.{Decides, AreTables, IsBehind, Behind}
use Rattle.ess_translate_cells.proofs.TablesInOrder.{Left, left-none, left-more, left-not, behind-none}

-- ---- one plan

-- What is on the side, or nothing.
on-side : (f g : pure_plans.Side) (ds : List Declaration) (rest : List ClosedTable) (o : Option (Bor (List ClosedTable))) →
    same_side g f ≡ true →
    Behind ds rest o → Behind (only_on f g ds) rest o
on-side f g ds rest o e h = subst (λ b. Behind (if b then ds else []) rest o) (sym e) h

off-side : (f g : pure_plans.Side) (ds : List Declaration) (rest : List ClosedTable) → same_side g f ≡ false →
    IsBehind (only_on f g ds) rest rest
off-side f g ds rest e = subst (λ b. IsBehind (if b then ds else []) rest rest) (sym e) (behind-none rest)

pub size_on : (f : pure_plans.Side) (t a : Text) (d : Option Domain) (rest : List ClosedTable) (o : Option (Bor (List ClosedTable))) →
    same_side givens_side f ≡ true →
    Behind (record { axes = []; cell = from_one } ∷ []) rest o → Behind (tables_on f (size_plan t a) d) rest o
size_on f t a d rest o e h = on-side f givens_side _ rest o e h

pub size_off : (f : pure_plans.Side) (t a : Text) (d : Option Domain) (rest : List ClosedTable) → same_side givens_side f ≡ false →
    IsBehind (tables_on f (size_plan t a) d) rest rest
size_off f t a d rest e = off-side f givens_side _ rest e

pub value_on : (f g : pure_plans.Side) (x : Text) (r : pure.Repr) (u : pure.Dom) (ns : List Named) (d : Option Domain)
    (rest : List ClosedTable)
    (o : Option (Bor (List ClosedTable))) → same_side g f ≡ true →
    Behind (map plain (list_or_none (option_map (declarations r) d))) rest o → Behind (tables_on f (value_plan g x r u ns) d) rest o
value_on f g x r u ns d rest o e h = on-side f g _ rest o e h

pub value_off : (f g : pure_plans.Side) (x : Text) (r : pure.Repr) (u : pure.Dom) (ns : List Named) (d : Option Domain)
    (rest : List ClosedTable) →
    same_side g f ≡ false → IsBehind (tables_on f (value_plan g x r u ns) d) rest rest
value_off f g x r u ns d rest e = off-side f g _ rest e

pub ruleset one_plan = (size_on, size_off, value_on, value_off)

-- ---- one domain

pub nothing_behind : (r : pure.Repr) (d : Option Domain) (rest : List ClosedTable) → d ≡ None →
    IsBehind (map plain (list_or_none (option_map (declarations r) d))) rest rest
nothing_behind r d rest e = subst (λ c. IsBehind (map plain (list_or_none (option_map (declarations r) c))) rest rest) (sym e)
    (behind-none rest)

pub value_behind : (r : pure.Repr) (d : Option Domain) (c : Domain) (rest : List ClosedTable) (o : Option (Bor (List ClosedTable))) →
    d ≡ Some c →
    Behind (map plain (declarations r c)) rest o → Behind (map plain (list_or_none (option_map (declarations r) d))) rest o
value_behind r d c rest o e h = subst (λ x. Behind (map plain (list_or_none (option_map (declarations r) x))) rest o) (sym e) h

-- ---- several plans

abbrev pub tables_by : pure_plans.Side → List Plan → List (Option Closed) → List Declaration
tables_by f ps os = tables_of_side f (map pure_plan ps) (map (option_map pure_closed) os)

-- Behind i plans.
abbrev pub PlansLeft : pure_plans.Side → List Plan → List (Option Closed) → ℕ → List ClosedTable → List ClosedTable → Type 0
PlansLeft f ps os i all left = Left (tables_by f ps os) (tables_by f (drop i ps) (drop i os)) all left

pub plans_none : (f : pure_plans.Side) (ps : List Plan) (os : List (Option Closed)) (all : List ClosedTable) → PlansLeft f ps os 0 all all
plans_none f ps os all = left-none (tables_by f ps os) all

next-plan : (f : pure_plans.Side) (ps : List Plan) (os : List (Option Closed)) (i : ℕ) (p x : Plan) (o y : Option Closed) →
    i < length ps → p ≡ get_or ps i x → i < length os → o ≡ get_or os i y →
    tables_by f (drop i ps) (drop i os) ≡ tables_on f (pure_plan p) (option_map pure_closed o) ++ tables_by f (drop (i + 1) ps) (drop
    (i + 1) os)
next-plan f ps os i p x o y h is k js =
    at_drop_more (λ l. tables_by f l (drop i os)) ps i x h ∙ ap (λ z. tables_by f (z ∷ drop (i + 1) ps) (drop i os)) (sym is)
    ∙ at_drop_more (λ l. tables_by f (p ∷ drop (i + 1) ps) l) os i y k
    ∙ ap (λ z. tables_by f (p ∷ drop (i + 1) ps) (z ∷ drop (i + 1) os)) (sym js)

pub plans_more : (f : pure_plans.Side) (ps : List Plan) (os : List (Option Closed)) (i : ℕ) (p x : Plan) (o y : Option Closed)
    (all left more : List ClosedTable) →
    i < length ps → p ≡ get_or ps i x → i < length os → o ≡ get_or os i y → PlansLeft f ps os i all left →
    IsBehind (tables_on f (pure_plan p) (option_map pure_closed o)) left more → PlansLeft f ps os (i + 1) all more
plans_more f ps os i p x o y all left more h is k js s b =
    left-more _ _ (tables_on f (pure_plan p) (option_map pure_closed o)) all left more
    (subst (λ l. Left (tables_by f ps os) l all left) (next-plan f ps os i p x o y h is k js) s) b

-- What is left is what remains to be declared.
decided : (all : List Declaration) (tables left : List ClosedTable) (n : ℕ) → Left all [] tables left → n ≡ length left →
    Decides (n == 0) (AreTables tables all)
decided all tables [] n s e = record {
  yes = λ t. subst (AreTables tables) (append-nil all) (s.on [] tt);
  no = λ z h. absurd (no-zero (sym (ap (λ m. m == 0) e) ∙ z));
}
  where
    no-zero : true ≡ false → ⊥
    no-zero x = cc
decided all tables (t ∷ left) n s e = record {
  yes = λ z. absurd (some (sym (ap (λ m. m == 0) e ∙ ne_eqb (length (t ∷ left)) 0 (λ w. cc)) ∙ z));
  no = λ z h. s.back [] (subst (AreTables tables) (sym (append-nil all)) h);
}
  where
    some : false ≡ true → ⊥
    some x = cc

none-of : (f : pure_plans.Side) (os : List (Option Domain)) → tables_of_side f [] os ≡ []
none-of f [] = refl
none-of f (o ∷ os) = refl

none-for : (f : pure_plans.Side) (ps : List pure_plans.Plan) → tables_of_side f ps [] ≡ []
none-for f [] = refl
none-for f (p ∷ ps) = refl

pub plans_short : (f : pure_plans.Side) (ps : List Plan) (os : List (Option Closed)) (i : ℕ) (all left : List ClosedTable) (b : Bool) →
    length os ≤ i →
    PlansLeft f ps os i all left → b ≡ (length left == 0) → Decides b (AreTables all (tables_by f ps os))
plans_short f ps os i all left b h s e =
    subst (λ c. Decides c (AreTables all (tables_by f ps os))) (sym e) (decided (tables_by f ps os) all left (length left)
    (subst (λ l. Left (tables_by f ps os) l all left) (at_drop_all (λ l. tables_by f (drop i ps) l) os i h
    ∙ none-for f (map pure_plan (drop i ps))) s) refl)

pub plans_all : (f : pure_plans.Side) (ps : List Plan) (os : List (Option Closed)) (i : ℕ) (all left : List ClosedTable) (b : Bool) →
    length ps ≤ i →
    PlansLeft f ps os i all left → b ≡ (length left == 0) → Decides b (AreTables all (tables_by f ps os))
plans_all f ps os i all left b h s e =
    subst (λ c. Decides c (AreTables all (tables_by f ps os))) (sym e) (decided (tables_by f ps os) all left (length left)
    (subst (λ l. Left (tables_by f ps os) l all left) (at_drop_all (λ l. tables_by f l (drop i os)) ps i h
    ∙ none-of f (map (option_map pure_closed) (drop i os))) s) refl)

pub plans_fail : (f : pure_plans.Side) (ps : List Plan) (os : List (Option Closed)) (i : ℕ) (p x : Plan) (o y : Option Closed)
    (all left : List ClosedTable) →
    i < length ps → p ≡ get_or ps i x → i < length os → o ≡ get_or os i y → PlansLeft f ps os i all left →
    ((xs : List Declaration) → AreTables left (tables_on f (pure_plan p) (option_map pure_closed o) ++ xs) → ⊥) →
    Decides false (AreTables all (tables_by f ps os))
plans_fail f ps os i p x o y all left h is k js s b = record {
  yes = λ z. absurd (no z);
  no = λ z t. left-not _ _ (tables_on f (pure_plan p) (option_map pure_closed o)) all left
      (subst (λ l. Left (tables_by f ps os) l all left) (next-plan f ps os i p x o y h is k js) s) b []
      (subst (AreTables all) (sym (append-nil (tables_by f ps os))) t);
}
  where
    no : false ≡ true → ⊥
    no z = cc

pub ruleset plans_in_order = (plans_none, plans_more, plans_fail, plans_short, plans_all)
