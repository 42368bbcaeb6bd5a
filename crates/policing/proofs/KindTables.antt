-- The table of a key's kind: unchanged, or with one key's meter put. Assumes nothing.
use Rattle.std.proofs.Common.{◌≡◌, ℕ, ◌+◌, cond, Some, None, Ok, Err, Option, Result, sym, ap, subst, arith}
use Rattle.packet.specs.declared.kinds.Key.{Key}
use Rattle.packet.specs.declared.kinds.Key.TheVariants.{Conversation, Station}
use Rattle.flow.specs.declared.key.Key as keys
use Rattle.flow.specs.declared.table.FlowTable.{FlowTable}
use Rattle.flow.specs.Rows as rows
use Rattle.flow.specs.Tables.{rows_of, Held, Same}
use Rattle.history.specs.Histories.{same_kind}
use Rattle.history.specs.declared.answers.Refusal.{Refusal}
use Rattle.policing.specs.declared.flows.FlowRow.{FlowRow}
use Rattle.policing.specs.declared.flows.Flows.{Flows}
use Rattle.policing.specs.Flows.{Looked, HeldBy, used_by, SameBoth, LookedBy, PutsBy}

module _ {K M : Type 0} {kind : keys.Ghosts K} (t u : FlowTable K M kind) (s : Same t u) where
  back : (k : K) (m : M) → Held u k m → Held t k m
  back k m held = subst (λ v. rows.Holds v t.used k m) s.0 (subst (λ v. rows.Holds (rows_of u) v k m) s.2 held)

  forth : (k : K) (m : M) → Held t k m → Held u k m
  forth k m held = subst (λ v. rows.Holds (rows_of u) v k m) (sym s.2) (subst (λ v. rows.Holds v t.used k m) (sym s.0) held)

module _ {M : Type 0} (f g : Flows M) where
  pub same_back : SameBoth f g → (k : Key) (m : M) → HeldBy g k m → HeldBy f k m
  same_back s (Conversation k) m held = back f.conversations g.conversations s.0 k m held
  same_back s (Station k) m held = back f.stations g.stations s.1 k m held

  pub same_forth : SameBoth f g → (k : Key) (m : M) → HeldBy f k m → HeldBy g k m
  same_forth s (Conversation k) m held = forth f.conversations g.conversations s.0 k m held
  same_forth s (Station k) m held = forth f.stations g.stations s.1 k m held

  pub same_used : SameBoth f g → (k : Key) → used_by g k ≡ used_by f k
  same_used s (Conversation k) = s.0.2
  same_used s (Station k) = s.1.2

  pub puts_held : (key : Key) (more : ℕ) (x : M) → PutsBy f g key more x → HeldBy g key x
  puts_held (Conversation k) more x p = p.0.held
  puts_held (Station k) more x p = p.0.held

  pub puts_only : (key : Key) (more : ℕ) (x : M) → PutsBy f g key more x → (n : M) → HeldBy g key n → n ≡ x
  puts_only (Conversation k) more x p n held = p.0.only n held
  puts_only (Station k) more x p n held = p.0.only n held

  pub puts_kept : (key : Key) (more : ℕ) (x : M) → PutsBy f g key more x → (k : Key) (n : M) → (k ≡ key → ⊥) → HeldBy f k n → HeldBy g k n
  puts_kept (Conversation a) more x p (Conversation b) n ne held = p.0.kept b n (λ e. ne (ap Conversation e)) held
  puts_kept (Conversation a) more x p (Station b) n ne held = forth f.stations g.stations p.2 b n held
  puts_kept (Station a) more x p (Conversation b) n ne held = forth f.conversations g.conversations p.2 b n held
  puts_kept (Station a) more x p (Station b) n ne held = p.0.kept b n (λ e. ne (ap Station e)) held

  pub puts_nomore : (key : Key) (more : ℕ) (x : M) → PutsBy f g key more x → (k : Key) (n : M) → (k ≡ key → ⊥) → HeldBy g k n → HeldBy f k n
  puts_nomore (Conversation a) more x p (Conversation b) n ne held = p.0.nomore b n (λ e. ne (ap Conversation e)) held
  puts_nomore (Conversation a) more x p (Station b) n ne held = back f.stations g.stations p.2 b n held
  puts_nomore (Station a) more x p (Conversation b) n ne held = back f.conversations g.conversations p.2 b n held
  puts_nomore (Station a) more x p (Station b) n ne held = p.0.nomore b n (λ e. ne (ap Station e)) held

  pub puts_used : (key : Key) (more : ℕ) (x : M) → PutsBy f g key more x → (k : Key) → used_by g k ≡ used_by f k + cond (same_kind k key) more 0
  puts_used (Conversation a) more x p (Conversation b) = p.1
  puts_used (Conversation a) more x p (Station b) = let e = p.2.2 in omega arith
  puts_used (Station a) more x p (Conversation b) = let e = p.2.2 in omega arith
  puts_used (Station a) more x p (Station b) = p.1

module _ {M : Type 0} (f : Flows M) where
  pub looked_conversation : (k : _) (r : Result (Option (FlowRow M)) Refusal) → Looked f.conversations k r → LookedBy f (Conversation k) r
  looked_conversation k (Ok (Some h)) l = l
  looked_conversation k (Ok None) l = l
  looked_conversation k (Err e) l = l

  pub looked_station : (k : _) (r : Result (Option (FlowRow M)) Refusal) → Looked f.stations k r → LookedBy f (Station k) r
  looked_station k (Ok (Some h)) l = l
  looked_station k (Ok None) l = l
  looked_station k (Err e) l = l
