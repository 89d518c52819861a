-- What the events of a call say: messages handed over, data frames, acks. Assumes nothing.
use mathlib.Core.Path.{◌≡◌, refl, sym, ap, ◌∙◌}
use mathlib.Core.List.{List, [], ◌∷◌, ◌++◌, map, append_assoc}
use Prim.Native.Nat.{ℕ}
use Rattle.rules.specs.State.{Message}
use Rattle.rules.specs.Events.{Event, commit_requested, message, acknowledged, rejection_acknowledged, keepalive, committed, failure, send_data, send_ack, answer_ack}

module _ {A B : Type 0} (f : A → List B) where
  abbrev pub gather : List A → List B
  gather [] = []
  gather (x ∷ l) = f x ++ gather l

  pub gather_append : (l t : List A) → gather (l ++ t) ≡ gather l ++ gather t
  gather_append [] t = refl
  gather_append (x ∷ l) t = ap (λ z. f x ++ z) (gather_append l t) ∙ sym (append_assoc (f x) (gather l) (gather t))

  pub gather_none : {C : Type 0} (g : C → A) → ((c : C) → f (g c) ≡ []) → (l : List C) → gather (map g l) ≡ []
  gather_none g e [] = refl
  gather_none g e (x ∷ l) = rw (e x) (gather_none g e l)

  pub gather_one : {C : Type 0} (g : C → A) (h : C → B) → ((c : C) → f (g c) ≡ h c ∷ []) → (l : List C) → gather (map g l) ≡ map h l
  gather_one g h e [] = refl
  gather_one g h e (x ∷ l) = rw (e x) (ap (λ z. h x ∷ z) (gather_one g h e l))

abbrev pub message_in : Event → List Message
message_in commit_requested = []
message_in (message n b) = record { number = n; body = b } ∷ []
message_in (acknowledged n) = []
message_in rejection_acknowledged = []
message_in keepalive = []
message_in committed = []
message_in (failure r) = []
message_in (send_data n b) = []
message_in (send_ack n) = []
message_in (answer_ack n) = []

abbrev pub data_in : Event → List Message
data_in commit_requested = []
data_in (message n b) = []
data_in (acknowledged n) = []
data_in rejection_acknowledged = []
data_in keepalive = []
data_in committed = []
data_in (failure r) = []
data_in (send_data n b) = record { number = n; body = b } ∷ []
data_in (send_ack n) = []
data_in (answer_ack n) = []

abbrev pub ack_in : Event → List ℕ
ack_in commit_requested = []
ack_in (message n b) = []
ack_in (acknowledged n) = []
ack_in rejection_acknowledged = []
ack_in keepalive = []
ack_in committed = []
ack_in (failure r) = []
ack_in (send_data n b) = []
ack_in (send_ack n) = n ∷ []
ack_in (answer_ack n) = n ∷ []
