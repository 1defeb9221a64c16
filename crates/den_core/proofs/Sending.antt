-- A reply and its events, framed and sent one after the other.
use Rattle.std.proofs.Common.{◌≡◌, ℕ, ◌<◌, ◌≤◌, ◌+◌, ◌-◌, List, [], ◌∷◌, ◌++◌, length, take, drop, get_or, sym, ◌∙◌, ap, subst, append_assoc, arith, refl}
use Rattle.std.specs.Int.{to_be_bytes, w64}
use Rattle.std.specs.List.{flat_map}
use Rattle.std.proofs.lemmas.List.{append-nil, map-append, take_more, take-append-drop, take_all, length-append, length-drop}
use Rattle.std.proofs.lemmas.Grind.{flat_map-append}
use Rattle.den_disk.specs.Goes.{IsPrefix, stamped}
use Rattle.den_model.specs.declared.reply.WatchEvent.{WatchEvent}
use Rattle.den_model.specs.Spelling.{u64_word, event_word}
use Rattle.den_model.specs.Frames.{framed}
use Rattle.den_core.specs.Answers.{SendsFirst}

-- the length was written in front
pub length_put : (frame head : List ℕ) → head ≡ to_be_bytes w64 (length frame - 8) → head ++ drop 8 frame ≡ framed (drop 8 frame)
unfolding u64_word
length_put frame head is = ap (λ l. l ++ drop 8 frame) (is ∙ ap (to_be_bytes w64) (sym (length-drop 8 frame)))

-- a frame is not empty
pub framed_some : (frame body : List ℕ) → frame ≡ framed body → 0 < length frame
unfolding u64_word
framed_some frame body is = omega (arith, ap length is)

-- a front of a part is one of the whole
pub front_of : (s0 s1 : List (ℕ × ℕ)) (part more : List ℕ) (t : ℕ) → (front : List ℕ) × IsPrefix front part × (s1 ≡ s0 ++ stamped front t) → (front : List ℕ) × IsPrefix front (part ++ more) × (s1 ≡ s0 ++ stamped front t)
front_of s0 s1 part more t sent = (sent.0, record { rest = sent.1.rest ++ more; is = sym (append_assoc sent.0 sent.1.rest more) ∙ ap (λ l. l ++ more) sent.1.is }, sent.2)

-- a reply's frame, and the frames of events behind it
abbrev all_of : List ℕ → List WatchEvent → List ℕ
all_of first events = first ++ flat_map (λ e. framed (event_word e)) events

all_more : (first : List ℕ) (events : List WatchEvent) (i : ℕ) (event : WatchEvent) → i < length events → event ≡ get_or events i event → all_of first (take (i + 1) events) ≡ all_of first (take i events) ++ framed (event_word event)
all_more first events i event lt is =
    let f : WatchEvent → List ℕ = λ e. framed (event_word e) in
    ap (all_of first) (take_more events i event lt)
    ∙ ap (λ (e : WatchEvent). all_of first (take i events ++ e ∷ [])) (sym is)
    ∙ ap (λ l. first ++ l) (flat_map-append f (take i events) (event ∷ []))
    ∙ ap (λ l. first ++ (flat_map f (take i events) ++ l)) (append-nil (f event))
    ∙ sym (append_assoc first (flat_map f (take i events)) (f event))

sent_on : (s0 s1 s2 : List (ℕ × ℕ)) (bytes piece : List ℕ) (t : ℕ) → s1 ≡ s0 ++ stamped bytes t → s2 ≡ s1 ++ stamped piece t → s2 ≡ s0 ++ stamped (bytes ++ piece) t
sent_on s0 s1 s2 bytes piece t one two =
    two ∙ ap (λ s. s ++ stamped piece t) one ∙ append_assoc s0 (stamped bytes t) (stamped piece t) ∙ ap (λ s. s0 ++ s) (sym (map-append (λ (byte : ℕ). (byte, t)) bytes piece))

-- ---- by a buffer

-- more was sent of what the buffer held, and a piece was put behind what it holds
pub sends_more : (bytes held left now piece : List ℕ) (s0 s1 s2 : List (ℕ × ℕ)) (t : ℕ) → SendsFirst bytes held s0 s1 t → SendsFirst held left s1 s2 t → now ≡ left ++ piece → SendsFirst (bytes ++ piece) now s0 s2 t
sends_more bytes held left now piece s0 s1 s2 t one two put = record {
  sent = one.sent ++ two.sent;
  parts = ap (λ l. (one.sent ++ two.sent) ++ l) put ∙ sym (append_assoc (one.sent ++ two.sent) left piece)
      ∙ ap (λ l. l ++ piece) (append_assoc one.sent two.sent left ∙ ap (λ l. one.sent ++ l) two.parts ∙ one.parts);
  is = sent_on s0 s1 s2 one.sent two.sent t one.is two.is;
}

-- a front of what the buffer held was sent
pub sends_front : (bytes held : List ℕ) (s0 s1 s2 : List (ℕ × ℕ)) (t : ℕ) → SendsFirst bytes held s0 s1 t → (front : List ℕ) × IsPrefix front held × (s2 ≡ s1 ++ stamped front t)
    → (front : List ℕ) × IsPrefix front bytes × (s2 ≡ s0 ++ stamped front t)
sends_front bytes held s0 s1 s2 t one sent = (
  one.sent ++ sent.0,
  record { rest = sent.1.rest; is = append_assoc one.sent sent.0 sent.1.rest ∙ ap (λ l. one.sent ++ l) sent.1.is ∙ one.parts },
  sent_on s0 s1 s2 one.sent sent.0 t one.is sent.2,
)

-- what was sent first is a front
pub first_front : (bytes left : List ℕ) (s0 s1 : List (ℕ × ℕ)) (t : ℕ) → SendsFirst bytes left s0 s1 t → (front : List ℕ) × IsPrefix front bytes × (s1 ≡ s0 ++ stamped front t)
first_front bytes left s0 s1 t one = (one.sent, record { rest = left; is = one.parts }, one.is)

-- one event more
pub event_put : (first : List ℕ) (events items : List WatchEvent) (i : ℕ) (event : WatchEvent) (held left now : List ℕ) (s0 s1 s2 : List (ℕ × ℕ)) (t : ℕ) → items ≡ events → i < length items → event ≡ get_or items i event
    → SendsFirst (all_of first (take i events)) held s0 s1 t → SendsFirst held left s1 s2 t → now ≡ left ++ framed (event_word event) → SendsFirst (all_of first (take (i + 1) events)) now s0 s2 t
event_put first events items i event held left now s0 s1 s2 t same lt is one two put =
    subst (λ l. SendsFirst l now s0 s2 t) (sym (all_more first events i event (subst (λ (l : List WatchEvent). i < length l) same lt) (is ∙ ap (λ (l : List WatchEvent). get_or l i event) same)))
    (sends_more (all_of first (take i events)) held left now (framed (event_word event)) s0 s1 s2 t one two put)

-- a front of the first events is one of all
pub front_so_far : (first : List ℕ) (events : List WatchEvent) (i : ℕ) (s0 s1 : List (ℕ × ℕ)) (t : ℕ) → (front : List ℕ) × IsPrefix front (all_of first (take i events)) × (s1 ≡ s0 ++ stamped front t)
    → (front : List ℕ) × IsPrefix front (all_of first events) × (s1 ≡ s0 ++ stamped front t)
front_so_far first events i s0 s1 t sent =
    let f : WatchEvent → List ℕ = λ e. framed (event_word e) in
    let more = flat_map f (drop i events) in
    let all : all_of first (take i events) ++ more ≡ all_of first events =
    append_assoc first (flat_map f (take i events)) more ∙ ap (λ l. first ++ l) (sym (flat_map-append f (take i events) (drop i events)) ∙ ap (flat_map f) (take-append-drop i events)) in
    let part = front_of s0 s1 (all_of first (take i events)) more t sent in
    (part.0, subst (λ l. IsPrefix part.0 l) all part.1, part.2)

-- behind the last event all are in it
pub all_put : (first : List ℕ) (events items : List WatchEvent) (i : ℕ) → items ≡ events → length items ≤ i → all_of first (take i events) ≡ all_of first events
all_put first events items i same le = ap (all_of first) (take_all i events (subst (λ (l : List WatchEvent). length l ≤ i) same le))

-- a buffer behind which a frame was put is not empty
pub framed_more : (now left body : List ℕ) → now ≡ left ++ framed body → 0 < length now
framed_more now left body is = omega (arith, ap length is ∙ length-append left (framed body), framed_some (framed body) body refl)

-- a front of the last piece
pub last_front : (first : List ℕ) (events items : List WatchEvent) (i : ℕ) (held piece : List ℕ) (s0 s1 s2 : List (ℕ × ℕ)) (t : ℕ) → items ≡ events → length items ≤ i
    → SendsFirst (all_of first (take i events)) held s0 s1 t → piece ≡ held → (front : List ℕ) × IsPrefix front piece × (s2 ≡ s1 ++ stamped front t)
    → (front : List ℕ) × IsPrefix front (all_of first events) × (s2 ≡ s0 ++ stamped front t)
last_front first events items i held piece s0 s1 s2 t same le one is sent =
    sends_front (all_of first events) held s0 s1 s2 t (subst (λ l. SendsFirst l held s0 s1 t) (all_put first events items i same le) one)
    (sent.0, subst (λ l. IsPrefix sent.0 l) is sent.1, sent.2)
