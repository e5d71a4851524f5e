-- The join of two types is the least that says what both say: it is there, and says no more than a type that says what both say.
use Rattle.std.proofs.Common.{◌≡◌, refl, sym, ap, ◌∙◌, subst, ℕ, Bool, true, false, if◌then◌else◌, Some, None, option_map, ◌⊎◌, inl, inr, arith}
use Rattle.ess_semantics.specs.Lists.{and_then, when}
use Rattle.ess_semantics.specs.Values.{Kind}
use Rattle.ess_semantics.specs.Order.{same_text}
use Rattle.ess_semantics.specs.Types.{Ty, any_ty, bool_ty, int_ty, named_ty, compound, Tys, no_tys, more_tys, is_relation, is_open, join, joins}
use Rattle.ess_values_laws.proofs.TypeOrder.{NoneWithin, Within, PartsWithin, AllWithin, same-kinds, same-text-itself, joined}

-- The join is there, and says no more than v.
abbrev pub JoinWithin : Ty → Ty → Ty → Type 0
JoinWithin t u v = (w : Ty) × (join t u ≡ Some w) × Within w v

abbrev pub form : Ty → ℕ
form any_ty = 0
form bool_ty = 1
form int_ty = 2
form (named_ty a) = 3
form (compound k ts) = 4

form-within : (t v : Ty) → Within t v → (t ≡ any_ty) ⊎ (form t ≡ form v)
form-within any_ty v h = inl refl
form-within bool_ty any_ty h = absurd h
form-within bool_ty bool_ty h = inr refl
form-within bool_ty int_ty h = absurd h
form-within bool_ty (named_ty b) h = absurd h
form-within bool_ty (compound l us) h = absurd h
form-within int_ty any_ty h = absurd h
form-within int_ty bool_ty h = absurd h
form-within int_ty int_ty h = inr refl
form-within int_ty (named_ty b) h = absurd h
form-within int_ty (compound l us) h = absurd h
form-within (named_ty a) any_ty h = absurd h
form-within (named_ty a) bool_ty h = absurd h
form-within (named_ty a) int_ty h = absurd h
form-within (named_ty a) (named_ty b) h = inr refl
form-within (named_ty a) (compound l us) h = absurd h
form-within (compound k ts) any_ty h = absurd h
form-within (compound k ts) bool_ty h = absurd h
form-within (compound k ts) int_ty h = absurd h
form-within (compound k ts) (named_ty b) h = absurd h
form-within (compound k ts) (compound l us) h = inr refl

-- two types of different forms say nothing in common
clash : {A : Type 0} (t u v : Ty) → Within t v → Within u v → (t ≡ any_ty → ⊥) → (u ≡ any_ty → ⊥) → (form t ≡ form u → ⊥) → A
clash {A = A} t u v p q a b d = go (form-within t v p) (form-within u v q)
  where
    go : (t ≡ any_ty) ⊎ (form t ≡ form v) → (u ≡ any_ty) ⊎ (form u ≡ form v) → A
    go (inl e) f = absurd (a e)
    go (inr e) (inl f) = absurd (b f)
    go (inr e) (inr f) = absurd (d (e ∙ sym f))

-- the first has no parts
open-within : (k : Kind) (b : Bool) (us vs : Tys) → is_relation k ≡ b → NoneWithin b vs → PartsWithin k us vs →
    (ws : Tys) × ((if b then Some us else (if is_open k us then Some no_tys else joins no_tys us)) ≡ Some ws) × PartsWithin k ws vs
open-within k true us vs e p q = (us, refl, q)
open-within k false no_tys no_tys e p q = (no_tys, either (is_relation k), q)
  where
    either : (b : Bool) → (if b then Some no_tys else Some no_tys) ≡ Some no_tys
    either true = refl
    either false = refl
open-within k false no_tys (more_tys v vs) e p q = absurd p
open-within k false (more_tys u us) no_tys e p q = absurd q
open-within k false (more_tys u us) (more_tys v vs) e p q = absurd p

-- the second has none
beside-within : (k : Kind) (b : Bool) (t : Ty) (ts vs : Tys) → is_relation k ≡ b → PartsWithin k (more_tys t ts) vs → NoneWithin b vs →
    (ws : Tys) × ((if b then Some (more_tys t ts) else None) ≡ Some ws) × PartsWithin k ws vs
beside-within k true t ts vs e p q = (more_tys t ts, refl, p)
beside-within k false t ts no_tys e p q = absurd p
beside-within k false t ts (more_tys v vs) e p q = absurd q

-- a compound type joins with what says nothing
compound-any : (k : Kind) (ts : Tys) → join (compound k ts) any_ty ≡ Some (compound k ts)
compound-any k ts = refl

mutual
  pub join-within : (t u v : Ty) → Within t v → Within u v → JoinWithin t u v
  join-within any_ty u v p q = (u, refl, q)
  join-within bool_ty any_ty v p q = (bool_ty, refl, p)
  join-within bool_ty bool_ty v p q = (bool_ty, refl, p)
  join-within bool_ty int_ty v p q = clash bool_ty int_ty v p q (λ e. cc) (λ e. cc) (λ e. absurd (omega arith))
  join-within bool_ty (named_ty b) v p q = clash bool_ty (named_ty b) v p q (λ e. cc) (λ e. cc) (λ e. absurd (omega arith))
  join-within bool_ty (compound l us) v p q = clash bool_ty (compound l us) v p q (λ e. cc) (λ e. cc) (λ e. absurd (omega arith))
  join-within int_ty any_ty v p q = (int_ty, refl, p)
  join-within int_ty bool_ty v p q = clash int_ty bool_ty v p q (λ e. cc) (λ e. cc) (λ e. absurd (omega arith))
  join-within int_ty int_ty v p q = (int_ty, refl, p)
  join-within int_ty (named_ty b) v p q = clash int_ty (named_ty b) v p q (λ e. cc) (λ e. cc) (λ e. absurd (omega arith))
  join-within int_ty (compound l us) v p q = clash int_ty (compound l us) v p q (λ e. cc) (λ e. cc) (λ e. absurd (omega arith))
  join-within (named_ty a) any_ty v p q = ((named_ty a), refl, p)
  join-within (named_ty a) bool_ty v p q = clash (named_ty a) bool_ty v p q (λ e. cc) (λ e. cc) (λ e. absurd (omega arith))
  join-within (named_ty a) int_ty v p q = clash (named_ty a) int_ty v p q (λ e. cc) (λ e. cc) (λ e. absurd (omega arith))
  join-within (named_ty a) (named_ty b) any_ty p q = absurd p
  join-within (named_ty a) (named_ty b) bool_ty p q = absurd p
  join-within (named_ty a) (named_ty b) int_ty p q = absurd p
  join-within (named_ty a) (named_ty b) (named_ty c) p q =
      (named_ty a, ap (λ x. when x (named_ty a)) (ap (same_text a) (q ∙ sym p) ∙ same-text-itself a), p)
  join-within (named_ty a) (named_ty b) (compound m vs) p q = absurd p
  join-within (named_ty a) (compound l us) v p q = clash (named_ty a) (compound l us) v p q (λ e. cc) (λ e. cc) (λ e. absurd (omega arith))
  join-within (compound k ts) any_ty v p q = (compound k ts, compound-any k ts, p)
  join-within (compound k ts) bool_ty v p q = clash (compound k ts) bool_ty v p q (λ e. cc) (λ e. cc) (λ e. absurd (omega arith))
  join-within (compound k ts) int_ty v p q = clash (compound k ts) int_ty v p q (λ e. cc) (λ e. cc) (λ e. absurd (omega arith))
  join-within (compound k ts) (named_ty b) v p q = clash (compound k ts) (named_ty b) v p q (λ e. cc) (λ e. cc) (λ e. absurd (omega arith))
  join-within (compound k ts) (compound l us) any_ty p q = absurd p
  join-within (compound k ts) (compound l us) bool_ty p q = absurd p
  join-within (compound k ts) (compound l us) int_ty p q = absurd p
  join-within (compound k ts) (compound l us) (named_ty c) p q = absurd p
  join-within (compound k ts) (compound l us) (compound m vs) p q =
      let r = joined-within k ts us vs p.1 (subst (λ x. PartsWithin x us vs) (q.0 ∙ sym p.0) q.1) in (
        compound k r.0,
        ap (λ b. if b then option_map (compound k) (joined k ts us) else None) (same-kinds k l m p.0 q.0) ∙ ap (option_map (compound k)) r.1,
        (p.0, r.2),
      )

  joined-within : (k : Kind) (ts us vs : Tys) → PartsWithin k ts vs → PartsWithin k us vs → (ws : Tys) × (joined k ts us ≡ Some ws) × PartsWithin k ws vs
  joined-within k no_tys us vs p q = open-within k (is_relation k) us vs refl p q
  joined-within k (more_tys t ts) no_tys vs p q = beside-within k (is_relation k) t ts vs refl p q
  joined-within k (more_tys t ts) (more_tys u us) no_tys p q = absurd p
  joined-within k (more_tys t ts) (more_tys u us) (more_tys v vs) p q =
      let w = join-within t u v p.0 q.0 in
      let ws = joins-within ts us vs p.1 q.1 in
      (more_tys w.0 ws.0, ap (λ o. and_then o (λ x. option_map (more_tys x) (joins ts us))) w.1 ∙ ap (option_map (more_tys w.0)) ws.1, (w.2, ws.2))

  joins-within : (ts us vs : Tys) → AllWithin ts vs → AllWithin us vs → (ws : Tys) × (joins ts us ≡ Some ws) × AllWithin ws vs
  joins-within no_tys no_tys vs p q = (no_tys, refl, p)
  joins-within no_tys (more_tys u us) no_tys p q = absurd q
  joins-within no_tys (more_tys u us) (more_tys v vs) p q = absurd p
  joins-within (more_tys t ts) us no_tys p q = absurd p
  joins-within (more_tys t ts) no_tys (more_tys v vs) p q = absurd q
  joins-within (more_tys t ts) (more_tys u us) (more_tys v vs) p q =
      let w = join-within t u v p.0 q.0 in
      let ws = joins-within ts us vs p.1 q.1 in
      (more_tys w.0 ws.0, ap (λ o. and_then o (λ x. option_map (more_tys x) (joins ts us))) w.1 ∙ ap (option_map (more_tys w.0)) ws.1, (w.2, ws.2))
