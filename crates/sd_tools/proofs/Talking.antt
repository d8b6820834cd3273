-- A talk over a link, one request further.
use Rattle.std.proofs.Common.{◌≡◌, ℕ, ◌+◌, ◌<◌, ◌≤◌, ◌⊎◌, inl, inr, List, [], ◌∷◌, ◌++◌, length, take, drop, get_or, Option, Some, None, Result, Ok, Err, IfOk, refl, sym, ap, subst, ◌∙◌, arith, append_assoc, true}
use Rattle.std.specs.Int.{w32, to_be_bytes}
use Rattle.std.specs.Io.KnownBytes.{append_known}
use Rattle.std.proofs.lemmas.List.{map-append, append-nil, take_more, drop_more, length_push}
use Rattle.sd_wire.specs.Frames.{frame_of, reply_of, is_sound}
use Rattle.sd_wire.specs.declared.requests.Request.{Request}
use Rattle.sd_tools.specs.Replies.{replies_of, AreShort, AreSound, frames_of, with_pieces, BeginsNoReply, told, EndsInNoReply}
use Rattle.sd_tools.specs.declared.links.TheConstants.{LONGEST_REPLY}

pub ok_mapped : {A E : Type 0} (r : Result A E) (P Q : A → Type 0) → ((x : A) → P x → Q x) → IfOk r P → IfOk r Q
ok_mapped (Ok x) P Q f h = f x h
ok_mapped (Err e) P Q f h = tt

abbrev pub failed : {A E : Type 0} → E → Result A E
failed e = Err e

pub err_same : {A E : Type 0} (x y : E) → x ≡ y → failed {A = A} x ≡ failed y
err_same {A} {E} x y e = ap (λ (f : E). failed {A = A} f) e

append_twice : (known : Option (List ℕ)) (a b : List ℕ) → append_known (append_known known a) b ≡ append_known known (a ++ b)
append_twice None a b = refl
append_twice (Some xs) a b = ap (λ (l : List ℕ). Some l) (append_assoc xs a b)

pub pieces_twice : (known : Option (List (List ℕ))) (a b : List (List ℕ)) → with_pieces (with_pieces known a) b ≡ with_pieces known (a ++ b)
pieces_twice None a b = refl
pieces_twice (Some xs) a b = ap (λ (l : List (List ℕ)). Some l) (append_assoc xs a b)

-- four octets and a text of the length that they spell are a reply
pub reply_whole : (octets text : List ℕ) (size : ℕ) (old mid new : Option (List ℕ)) → to_be_bytes w32 size ≡ octets → size ≤ LONGEST_REPLY → mid ≡ append_known old octets → (length text ≡ size) × (new ≡ append_known mid text) → (length text ≤ LONGEST_REPLY) × (new ≡ append_known old (reply_of text))
reply_whole octets text size old mid new spelled few was h =
    (omega (arith, h.0, few), h.1 ∙ ap (λ (k : Option (List ℕ)). append_known k text) was ∙ append_twice old octets text ∙ ap (λ (o : List ℕ). append_known old (o ++ text)) (sym (ap (λ (n : ℕ). to_be_bytes w32 n) h.0 ∙ spelled)))

-- the frames of one request more
frames_more : (requests : List Request) (i : ℕ) (request : Request) → i < length requests → request ≡ get_or requests i request → frames_of (take (i + 1) requests) ≡ frames_of (take i requests) ++ frame_of request ∷ []
frames_more requests i request less is =
    ap frames_of (take_more requests i request less)
    ∙ map-append frame_of (take i requests) (get_or requests i request ∷ [])
    ∙ ap (λ (r : Request). frames_of (take i requests) ++ frame_of r ∷ []) (sym is)

sent_more : (requests : List Request) (i : ℕ) (request : Request) (old mid new : Option (List (List ℕ))) → i < length requests → request ≡ get_or requests i request → mid ≡ with_pieces old (frames_of (take i requests)) → new ≡ with_pieces mid (frame_of request ∷ []) → new ≡ with_pieces old (frames_of (take (i + 1) requests))
sent_more requests i request old mid new less is was now =
    now
    ∙ ap (λ (k : Option (List (List ℕ))). with_pieces k (frame_of request ∷ [])) was
    ∙ pieces_twice old (frames_of (take i requests)) (frame_of request ∷ [])
    ∙ ap (λ (f : List (List ℕ)). with_pieces old f) (sym (frames_more requests i request less is))

pub front_by : (requests : List Request) (i : ℕ) (request : Request) (old mid new : Option (List (List ℕ))) → i < length requests → request ≡ get_or requests i request → mid ≡ with_pieces old (frames_of (take i requests)) → (new ≡ mid) ⊎ (new ≡ with_pieces mid (frame_of request ∷ [])) → (n : ℕ) × (n ≤ length requests) × (new ≡ with_pieces old (frames_of (take n requests)))
front_by requests i request old mid new less is was (inl same) = (i, omega (arith, less), same ∙ was)
front_by requests i request old mid new less is was (inr now) = (i + 1, omega (arith, less), sent_more requests i request old mid new less is was now)

pub ends_by : (requests : List Request) (texts : List (List ℕ)) (i : ℕ) (sent sent_now : Option (List (List ℕ))) (old mid new : Option (List ℕ)) → i < length requests → length texts ≡ i → AreShort texts → mid ≡ append_known old (replies_of texts) → (octets : List ℕ) × BeginsNoReply octets × (new ≡ append_known mid octets) → EndsInNoReply requests texts (told sent old) (told sent_now new)
ends_by requests texts i sent sent_now old mid new less each short was found = record {
  fewer = omega (arith, less, each);
  short = short;
  octets = found.0;
  no_reply = found.1;
  received = found.2 ∙ ap (λ (k : Option (List ℕ)). append_known k found.0) was ∙ append_twice old (replies_of texts) found.0;
}

replies_more : (texts : List (List ℕ)) (text : List ℕ) → replies_of (texts ++ text ∷ []) ≡ replies_of texts ++ reply_of text
replies_more [] text = append-nil (reply_of text)
replies_more (first ∷ texts) text = ap (λ (r : List ℕ). reply_of first ++ r) (replies_more texts text) ∙ sym (append_assoc (reply_of first) (replies_of texts) (reply_of text))

short_more : (texts : List (List ℕ)) (text : List ℕ) → AreShort texts → length text ≤ LONGEST_REPLY → AreShort (texts ++ text ∷ [])
short_more [] text h few = (few, tt)
short_more (first ∷ texts) text h few = (h.0, short_more texts text h.1 few)

pub sound_first : (requests : List Request) (i : ℕ) (request : Request) → i < length requests → request ≡ get_or requests i request → AreSound (drop i requests) → (is_sound request ≡ true) × AreSound (drop (i + 1) requests)
sound_first requests i request less is h =
    let both : AreSound (get_or requests i request ∷ drop (i + 1) requests) = subst AreSound (drop_more requests i request less) h in
    (ap is_sound is ∙ both.0, both.1)

-- one request further
pub record TalkedOn (requests : List Request) (texts more : List (List ℕ)) (i : ℕ) (sent sent_now : Option (List (List ℕ))) (received received_now : Option (List ℕ)) : Type 0 where
  pub each : length more ≡ i + 1
  pub short : AreShort more
  pub sound : AreSound (drop (i + 1) requests)
  pub sent_so : sent_now ≡ with_pieces sent (frames_of (take (i + 1) requests))
  pub received_so : received_now ≡ append_known received (replies_of more)

pub talked_on : (requests : List Request) (texts more : List (List ℕ)) (i : ℕ) (request : Request) (text : List ℕ) (sent sent_mid sent_now : Option (List (List ℕ))) (old mid new : Option (List ℕ)) → i < length requests → request ≡ get_or requests i request → more ≡ texts ++ text ∷ [] → length texts ≡ i → AreShort texts → AreSound (drop i requests) → sent_mid ≡ with_pieces sent (frames_of (take i requests)) → mid ≡ append_known old (replies_of texts) → (length text ≤ LONGEST_REPLY) × (sent_now ≡ with_pieces sent_mid (frame_of request ∷ [])) × (new ≡ append_known mid (reply_of text)) → TalkedOn requests texts more i sent sent_now old new
talked_on requests texts more i request text sent sent_mid sent_now old mid new less is grown each short sound was_sent was h = record {
  each = omega (arith, ap (λ (t : List (List ℕ)). length t) grown, length_push texts text, each);
  short = subst AreShort (sym grown) (short_more texts text short h.0);
  sound = (sound_first requests i request less is sound).1;
  sent_so = sent_more requests i request sent sent_mid sent_now less is was_sent h.1;
  received_so =
      h.2
      ∙ ap (λ (k : Option (List ℕ)). append_known k (reply_of text)) was
      ∙ append_twice old (replies_of texts) (reply_of text)
      ∙ ap (λ (r : List ℕ). append_known old r) (sym (replies_more texts text))
      ∙ ap (λ (t : List (List ℕ)). append_known old (replies_of t)) (sym grown);
}
