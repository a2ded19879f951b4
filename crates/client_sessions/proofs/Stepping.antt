-- What a client is told leaves a session where it stands, or makes one update.
use Rattle.std.proofs.Common.{◌≡◌, ◌⊎◌, inl, inr, ◌+◌, ◌-◌, ℕ, List, map, length, Option, Some, None, refl, sym, ap, subst, ◌∙◌, arith, true≢false}
use Rattle.std.specs.Option.{is_some}
use Rattle.grid_types.specs.declared.answer.Answer.{Answer}
use Rattle.grid_types.specs.declared.refusal.Refusal.{Refusal}
use Rattle.grid_types.specs.declared.refusal.Refusal.TheVariants as refusal
use Rattle.grid_types.specs.declared.request.Reply.{Reply}
use Rattle.grid_types.specs.declared.request.Reply.TheVariants as told
use Rattle.grid_types.specs.declared.request.Request.{Request}
use Rattle.grid_types.specs.declared.request.Request.TheVariants as ask
use Rattle.grid_types.specs.declared.shape.Shape.{Shape}
use Rattle.grid_types.specs.declared.key.Key.{Key}
use Rattle.grid_types.specs.declared.update.Record.{Record}
use Rattle.grid_types.specs.declared.update.Update.{Update}
use Rattle.grid_types.specs.declared.update.Update.TheVariants.{Put, Remove}
use Rattle.grid_model.specs.Answers.{IsReading, IsAnswer, IsRefusal}
use Rattle.grid_model.specs.Histories.{History, IsPlace, entry_at, state_at}
use Rattle.grid_model.specs.Listings.{rows}
use Rattle.grid_model.specs.Lone.{record_of}
use Rattle.grid_model.specs.Sessions.{Exchange, made_in, place_told}
use Rattle.grid_model.specs.Tables.{Table, get, effect}
use Rattle.grid_model.proofs.Boxes.{one-value, some-not-none}
use Rattle.file_images.specs.Leads.{Standing}
use Rattle.client_sessions.specs.Points.{Point}
use Rattle.client_sessions.specs.Told.{Told, IsMade, IsRead, IsRemoved, RefusesUpdate, RefusesPut}

-- an exchange makes no update: its place is that of the standing, and it is an answer in each history that has the standing, or a refusal
pub record Stays {K : ℕ} (s : Standing K) (x : Exchange K) : Type 0 where
  pub made : made_in x ≡ None
  pub place : (n : ℕ) → place_told x.reply ≡ Some n → s.place ≡ n
  pub answer : (h : History K) → IsPlace h s.place → state_at h s.place ≡ s.table → IsAnswer h x.client x.request x.reply ⊎ IsRefusal x.reply

-- an exchange makes an update: it leads to the standing behind that, its place is the next one, and it is an answer in each history that has the standing and then the update
pub record Moves {K : ℕ} (s m : Standing K) (x : Exchange K) : Type 0 where
  pub update : Update K
  pub made : made_in x ≡ Some (s.place + 1, record { caller = x.client; update = update })
  pub behind : m.place ≡ s.place + 1
  pub table : m.table ≡ effect s.table update
  pub place : (n : ℕ) → place_told x.reply ≡ Some n → s.place + 1 ≡ n
  pub answer : (h : History K) → entry_at h (s.place + 1) ≡ Some (record { caller = x.client; update = update }) → state_at h s.place ≡ s.table → IsAnswer h x.client x.request x.reply

-- an exchange leads from a standing to another
pub data Step {K : ℕ} (s m : Standing K) (x : Exchange K) : Type 0 where
  IsStay : m ≡ s → Stays s x → Step s m x
  IsMove : Moves s m x → Step s m x

before : (n : ℕ) → n + 1 - 1 ≡ n
before n = omega arith

module _ {K : ℕ} (shape : Shape) (client : ℕ) where
  abbrev exchange-of : Request K → Reply K → Exchange K
  exchange-of request reply = record { client = client; request = request; reply = reply }

  stays-at : (p q : Point K) → q ≡ p → q.at ≡ p.at
  stays-at p q e = ap (λ (x : Point K). x.at) e

  -- a refused update leaves the session where it stands
  refused-update : (p q : Point K) (u : Update K) (e : Refusal) → RefusesUpdate shape p u e q → q.at ≡ p.at
  refused-update p q u (refusal.Unsure faults before) h = h.0.at
  refused-update p q u (refusal.Stopped faults opened) h = stays-at p q h.0
  refused-update p q u (refusal.Full free wanted) h = stays-at p q h.0
  refused-update p q u (refusal.Worn count) h = stays-at p q h.0
  refused-update p q u refusal.ReadFault h = stays-at p q h
  refused-update p q u refusal.WriteFault h = stays-at p q h
  refused-update p q u _ h = absurd h

  refused-put : (p q : Point K) (r : Record K) (e : Refusal) → RefusesPut shape p r e q → q.at ≡ p.at
  refused-put p q r (refusal.NoCut c b) h = stays-at p q h.0
  refused-put p q r (refusal.Unsure faults before) h = refused-update p q (Put r) (refusal.Unsure faults before) h
  refused-put p q r (refusal.Stopped faults opened) h = refused-update p q (Put r) (refusal.Stopped faults opened) h
  refused-put p q r (refusal.Full free wanted) h = refused-update p q (Put r) (refusal.Full free wanted) h
  refused-put p q r (refusal.Worn count) h = refused-update p q (Put r) (refusal.Worn count) h
  refused-put p q r refusal.ReadFault h = refused-update p q (Put r) refusal.ReadFault h
  refused-put p q r refusal.WriteFault h = refused-update p q (Put r) refusal.WriteFault h
  refused-put p q r _ h = absurd h

  refused : (s m : Standing K) (request : Request K) (e : Refusal) → made_in (exchange-of request (told.Refused e)) ≡ None → m ≡ s → Step s m (exchange-of request (told.Refused e))
  refused s m request e made same = IsStay same (record { made = made; place = λ n is. absurd (some-not-none n (sym is)); answer = λ h place table. inr (e, refl) })

  -- what was read at a standing is a reading in each history that has it
  reading : {V : Type 0} (s : Standing K) (at : ℕ) (value : V) (of : Table → V) → at ≡ s.place → value ≡ of s.table → (h : History K) → IsPlace h s.place → state_at h s.place ≡ s.table → IsReading h at value of
  reading s at value of here is h place table = record {
    place = subst (IsPlace h) (sym here) place;
    answer = is ∙ ap of (sym table) ∙ ap (λ n. of (state_at h n)) (sym here);
  }

  answer-place : {V : Type 0} (p q : Point K) (a : Answer V) (value : V) → IsRead p a value q → a.at ≡ p.at.place
  answer-place p q a value h = ap (λ (b : Answer _). b.at) h.answer

  put-made : (p q : Point K) (r : Record K) (a : Answer (Option (List ℕ))) → IsMade shape p (Put r) a q → Step p.at q.at (exchange-of (ask.Put r) (told.Put a))
  put-made p q r a h = subst (λ b. Step p.at q.at (exchange-of (ask.Put r) (told.Put b))) (sym h.answer) (IsMove (record {
    update = Put r;
    made = refl;
    behind = ap (λ (m : Standing K). m.place) h.leads.behind;
    table = ap (λ (m : Standing K). m.table) h.leads.behind;
    place = λ n is. one-value (p.at.place + 1) n is;
    answer = λ i there table. record { there = there; answer = ap (λ t. get t r.key.numbers) (sym table ∙ ap (state_at i) (sym (before p.at.place))) };
  }))

  remove-made : (p q : Point K) (k : Key K) (a : Answer (Option (List ℕ))) → IsMade shape p (Remove k) a q → Step p.at q.at (exchange-of (ask.Remove k) (told.Removed a))
  remove-made p q k a h = subst (λ b. Step p.at q.at (exchange-of (ask.Remove k) (told.Removed b))) (sym h.answer) (by (get p.at.table k.numbers) refl)
    where
      by : (o : Option (List ℕ)) → get p.at.table k.numbers ≡ o → Step p.at q.at (exchange-of (ask.Remove k) (told.Removed (record { at = p.at.place + 1; value = o })))
      by None e = absurd (true≢false (sym h.leads.lawful.0 ∙ ap is_some e))
      by (Some d) e = IsMove (record {
        update = Remove k;
        made = refl;
        behind = ap (λ (m : Standing K). m.place) h.leads.behind;
        table = ap (λ (m : Standing K). m.table) h.leads.behind;
        place = λ n is. one-value (p.at.place + 1) n is;
        answer = λ i there table. record { there = there; answer = sym e ∙ ap (λ t. get t k.numbers) (sym table ∙ ap (state_at i) (sym (before p.at.place))) };
      })

  -- a removal of a key that is absent is a reading
  remove-read : (p q : Point K) (k : Key K) (a : Answer (Option (List ℕ))) → IsRead p a None q → get p.at.table k.numbers ≡ None → Step p.at q.at (exchange-of (ask.Remove k) (told.Removed a))
  remove-read p q k a h none = subst (λ b. Step p.at q.at (exchange-of (ask.Remove k) (told.Removed b))) (sym h.answer) (IsStay (stays-at p q h.stays) (record {
    made = refl;
    place = λ n is. one-value p.at.place n is;
    answer = λ i place table. inl (reading p.at p.at.place None (λ t. get t k.numbers) refl (sym none) i place table);
  }))

  removed : (p q : Point K) (k : Key K) (a : Answer (Option (List ℕ))) → IsRemoved shape p (Remove k) a q → Step p.at q.at (exchange-of (ask.Remove k) (told.Removed a))
  removed p q k a (inl h) = remove-made p q k a h
  removed p q k a (inr h) = remove-read p q k a h.0 h.1

  -- what is told makes a step
  pub told-step : (p q : Point K) (request : Request K) (reply : Reply K) → Told shape p request reply q → Step p.at q.at (record { client = client; request = request; reply = reply })
  told-step p q (ask.Put r) (told.Put a) h = put-made p q r a h
  told-step p q (ask.Put r) (told.Refused e) h = refused p.at q.at (ask.Put r) e refl (refused-put p q r e h)
  told-step p q (ask.Remove k) (told.Removed a) h = removed p q k a h
  told-step p q (ask.Remove k) (told.Refused e) h = refused p.at q.at (ask.Remove k) e refl (refused-update p q (Remove k) e h)
  told-step p q (ask.Get k) (told.Got a) h = IsStay (stays-at p q h.stays) (record {
    made = refl;
    place = λ n is. sym (answer-place p q a (get p.at.table k.numbers) h) ∙ one-value a.at n is;
    answer = λ i place table. inl (reading p.at a.at a.value (λ t. get t k.numbers) (answer-place p q a (get p.at.table k.numbers) h) (ap (λ (b : Answer (Option (List ℕ))). b.value) h.answer) i place table);
  })
  told-step p q (ask.Get k) (told.Refused e) h = refused p.at q.at (ask.Get k) e refl (stays-at p q h.0)
  told-step p q (ask.List x) (told.Listed a) h = IsStay (stays-at p q h.1.stays) (record {
    made = refl;
    place = λ n is. sym (answer-place p q a (map record_of (rows p.at.table x)) h.1) ∙ one-value a.at n is;
    answer = λ i place table. inl (reading p.at a.at a.value (λ t. map record_of (rows t x)) (answer-place p q a (map record_of (rows p.at.table x)) h.1) (ap (λ (b : Answer (List (Record K))). b.value) h.1.answer) i place table);
  })
  told-step p q (ask.List x) (told.Refused e) h = refused p.at q.at (ask.List x) e refl (stays-at p q h.0)
  told-step p q (ask.Count x) (told.Counted a) h = IsStay (stays-at p q h.1.stays) (record {
    made = refl;
    place = λ n is. sym (answer-place p q a (length (rows p.at.table x)) h.1) ∙ one-value a.at n is;
    answer = λ i place table. inl (reading p.at a.at a.value (λ t. length (rows t x)) (answer-place p q a (length (rows p.at.table x)) h.1) (ap (λ (b : Answer ℕ). b.value) h.1.answer) i place table);
  })
  told-step p q (ask.Count x) (told.Refused e) h = refused p.at q.at (ask.Count x) e refl (stays-at p q h.0)
  told-step p q ask.Stat (told.Stood a) h = IsStay (stays-at p q h.0) (record {
    made = refl;
    place = λ n is. sym h.1 ∙ one-value a.at n is;
    answer = λ i place table. inl (reading p.at a.at a.value.records (λ t. length t) h.1 h.2 i place table);
  })
  told-step p q ask.Checkpoint (told.Rooted at) h = IsStay (stays-at p q h.0) (record {
    made = refl;
    place = λ n is. sym h.1 ∙ one-value at n is;
    answer = λ i place table. inl (subst (IsPlace i) (sym h.1) place);
  })
  told-step p q ask.Checkpoint (told.Refused e) h = refused p.at q.at ask.Checkpoint e refl (stays-at p q h.0)
  told-step p q _ _ h = absurd h
