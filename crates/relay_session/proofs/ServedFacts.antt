-- What a client was sent goes on to be that as bytes are appended.
use Rattle.std.proofs.Common.{◌≡◌, ℕ, List, [], ◌++◌, refl, sym, ◌∙◌, ap, subst, append_assoc}
use Rattle.std.proofs.lemmas.List.{append-nil}
use Rattle.block_record.specs.declared.blocks.Slip.{Slip}
use Rattle.chain_model.specs.Ancestry.{IsHistory}
use Rattle.chain_model.specs.Finality.{ClaimsAgree}
use Rattle.relay_model.specs.Soundness.{IsSound}
use Rattle.block_relay.specs.Chronicle.{Told, world_told}
use Rattle.client_stream.specs.Sessions.{State}
use Rattle.client_stream.specs.Sent.{HasSent, SentStays}
use Rattle.relay_session.specs.Sending.{Adds}
use Rattle.relay_session.specs.Serving.{Serves, IsServed, GoesOn}

-- over the relay's history as it is now
pub sent_now : SentStays → (t : Told) (older : List Slip) (type : List ℕ) (s : State) (text : List ℕ) → IsSound (world_told t) → Serves t older type s text → HasSent (world_told t).history type s text
sent_now law t older type s text sound h =
    subst (λ (n : List Slip). HasSent n type s text) (sym h.grown)
    (law older h.more type s text (subst IsHistory h.grown sound.history) (subst ClaimsAgree h.grown sound.agreed) h.sent)

-- the relay goes on to serve a client of its run
pub serves_on : (t : Told) (older : List Slip) (type : List ℕ) (s u : State) (text text' : List ℕ) → Serves t older type s text → u.progress.run_number ≡ s.progress.run_number
    → HasSent (world_told t).history type u text' → Serves t (world_told t).history type u text'
serves_on t older type s u text text' h run sent = record {
  sent = sent;
  more = [];
  grown = refl;
  run_is = h.run_is ∙ sym run;
  type_is = h.type_is;
}

-- bytes that were appended over the relay's history
pub adds_on : SentStays → (t : Told) (s u : State) (before after : List ℕ) → IsSound (world_told t) → u.progress.run_number ≡ s.progress.run_number
    → Adds (world_told t).history s u before after → GoesOn t s u before after
adds_on law t s u before after sound run a = record {
  added = a.added;
  text_is = a.text_is;
  serves = λ older type text h. serves_on t older type s u text (text ++ a.added) h run (a.sent type text (sent_now law t older type s text sound h));
}

-- none
pub adds_none : (newest : List Slip) (s : State) (text : List ℕ) → Adds newest s s text text
adds_none newest s text = record {
  added = [];
  text_is = sym (append-nil text);
  sent = λ type sent h. subst (λ (l : List ℕ). HasSent newest type s l) (sym (append-nil sent)) h;
}

pub none_on : SentStays → (t : Told) (s : State) (text : List ℕ) → IsSound (world_told t) → GoesOn t s s text text
none_on law t s text sound = adds_on law t s s text text sound refl (adds_none (world_told t).history s text)

-- and more after them
pub adds_more : (newest : List Slip) (s u v : State) (a b c : List ℕ) → Adds newest s u a b → Adds newest u v b c → Adds newest s v a c
adds_more newest s u v a b c g h = record {
  added = g.added ++ h.added;
  text_is = h.text_is ∙ ap (λ l. l ++ h.added) g.text_is ∙ append_assoc a g.added h.added;
  sent = λ type text x. subst (λ (l : List ℕ). HasSent newest type v l) (append_assoc text g.added h.added) (h.sent type (text ++ g.added) (g.sent type text x));
}

pub goes_further : (t : Told) (s u v : State) (a b c : List ℕ) → GoesOn t s u a b → GoesOn t u v b c → GoesOn t s v a c
goes_further t s u v a b c g h = record {
  added = g.added ++ h.added;
  text_is = h.text_is ∙ ap (λ l. l ++ h.added) g.text_is ∙ append_assoc a g.added h.added;
  serves = λ older type text x.
      subst (λ (l : List ℕ). Serves t (world_told t).history type v l) (append_assoc text g.added h.added)
      (h.serves (world_told t).history type (text ++ g.added) (g.serves older type text x));
}

-- so the client is served on
pub served_on : (t : Told) (s u : State) (a b : List ℕ) → IsServed t s → GoesOn t s u a b → IsServed t u
served_on t s u a b x g = record {
  older = (world_told t).history;
  type = x.type;
  text = x.text ++ g.added;
  serves = g.serves x.older x.type x.text x.serves;
}

-- the same where nothing has changed
pub same_on : SentStays → (t : Told) (s u : State) (before after : List ℕ) → IsSound (world_told t) → u ≡ s → after ≡ before → GoesOn t s u before after
same_on law t s u before after sound same text =
    subst (λ (v : State). GoesOn t s v before after) (sym same) (subst (λ (l : List ℕ). GoesOn t s s before l) (sym text) (none_on law t s before sound))
