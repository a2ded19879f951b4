-- A root step leaves a file where it stands at each of its points.
use Rattle.std.proofs.Common.{◌≡◌, ◌+◌, ◌==◌, inl, inr, ℕ, Bool, true, false, cond, map, Option, Some, None, sym, ap, subst, ◌∙◌}
use Rattle.std.specs.Option.{unwrap_or}
use Rattle.grid_model.specs.Roots.{WholeRoot}
use Rattle.grid_model.proofs.Boxes.{one-value, some-not-none}
use Rattle.file_images.specs.Kept.{ShutHeader, LooseHeader, Kept}
use Rattle.file_images.specs.Leads.{Standing, Lineage, lineage_at}
use Rattle.file_images.specs.Steps.{first_by, second_by, loosened, none_used, other_half, with_turned, with_closed, with_tried, with_root, with_loose, with_shut}
use Rattle.file_images.proofs.Histories.{leads_over}
use Rattle.file_images.proofs.Leading.{leads_loosened, leads_emptied}
use Rattle.file_books.specs.Books.{Books}
use Rattle.file_books.specs.Effects.{used_of, idle_half, with_used, closed_books, rooted_books, cleaned_books}
use Rattle.file_standing.specs.Files.{Follows, IsFile}
use Rattle.file_standing.specs.Steps.{cleaned_kept, IsNextRoot}
use Rattle.file_standing.proofs.Books.{books_used, used-form, idle-half-two, idle-half-other, loose-first, loose-second, clear-first, clear-second}
use Rattle.file_standing.proofs.Moving.{moved-hold, moved-follows, none-tried, only-root, loose-none, clear-none, all-behind}
use Rattle.file_standing.proofs.NextRoot.{new-follows}

module _ {K : ℕ} (b : Books) (k : Kept K) (m : Standing K) where
  -- once the other header page is closed
  closed-follows : (w : WholeRoot) (x : Lineage K) → Follows b k m w x → Follows (closed_books b) (with_closed k) m w x
  closed-follows w x f = moved-follows b k m b.number b.rooted_at None b.half b.first_used b.second_used k.root ShutHeader k.first k.second k.half w x (leads_over k w m x f.along k.root ShutHeader k.half) f.none f

  pub closed-file : IsFile b k m → IsFile (closed_books b) (with_closed k) m
  closed-file is = record {
    agree = record {
      shape = is.agree.shape;
      number = is.agree.number;
      root = is.agree.root;
      tried = λ w on. absurd on;
      half = is.agree.half;
      two = is.agree.two;
      first = is.agree.first;
      second = is.agree.second;
    };
    hold = moved-hold b k m b.number b.rooted_at None b.half b.first_used b.second_used k.root ShutHeader k.first k.second k.half is.hold;
    shut = is.shut;
    each = λ w may. elim may [
      | inl e ↦ let f = is.each w (inl e) in record { lineage = f.lineage; along = closed-follows w f.lineage f.along }
      | inr on ↦ absurd on
    ];
  }

  -- books of which a root is tried at the front, with another current half where the other one is clear
  abbrev pub turned_at : Bool → Books
  turned_at t = record b { trying_at = Some b.front; half = cond t (idle_half b) b.half }

  abbrev pub turned_with : Bool → Kept K
  turned_with t = cond t (with_turned k) k

  turned-follows : (t : Bool) (w : WholeRoot) (x : Lineage K) → Follows b k m w x → Follows (turned_at t) (turned_with t) m w x
  turned-follows true w x f = moved-follows b k m b.number b.rooted_at (Some b.front) (idle_half b) b.first_used b.second_used k.root k.other k.first k.second (other_half k.half) w x (leads_over k w m x f.along k.root k.other (other_half k.half)) f.none f
  turned-follows false w x f = moved-follows b k m b.number b.rooted_at (Some b.front) b.half b.first_used b.second_used k.root k.other k.first k.second k.half w x f.along f.none f

  -- once the halves' roles are exchanged
  pub turned-file : (t : Bool) → k.other ≡ ShutHeader → IsFile b k m → IsFile (turned_at t) (turned_with t) m
  turned-file true shut is = record {
    agree = record {
      shape = is.agree.shape;
      number = is.agree.number;
      root = is.agree.root;
      tried = λ w on. none-tried k.other w shut on;
      half = ap other_half is.agree.half ∙ sym (idle-half-other b is.agree.two);
      two = idle-half-two b;
      first = is.agree.first;
      second = is.agree.second;
    };
    hold = moved-hold b k m b.number b.rooted_at (Some b.front) (idle_half b) b.first_used b.second_used k.root k.other k.first k.second (other_half k.half) is.hold;
    shut = is.shut;
    each = λ w may. let f = is.each w may in record { lineage = f.lineage; along = turned-follows true w f.lineage f.along };
  }
  turned-file false shut is = record {
    agree = record {
      shape = is.agree.shape;
      number = is.agree.number;
      root = is.agree.root;
      tried = λ w on. none-tried k.other w shut on;
      half = is.agree.half;
      two = is.agree.two;
      first = is.agree.first;
      second = is.agree.second;
    };
    hold = moved-hold b k m b.number b.rooted_at (Some b.front) b.half b.first_used b.second_used k.root k.other k.first k.second k.half is.hold;
    shut = is.shut;
    each = λ w may. let f = is.each w may in record { lineage = f.lineage; along = turned-follows false w f.lineage f.along };
  }

  -- books whose halves' roles are exchanged where the other one is clear, where no root is tried
  abbrev pub exchanged_at : Bool → Books
  exchanged_at t = record b { trying_at = None; half = cond t (idle_half b) b.half }

  exchanged-follows : (t : Bool) (w : WholeRoot) (x : Lineage K) → Follows b k m w x → Follows (exchanged_at t) (turned_with t) m w x
  exchanged-follows true w x f = moved-follows b k m b.number b.rooted_at None (idle_half b) b.first_used b.second_used k.root k.other k.first k.second (other_half k.half) w x (leads_over k w m x f.along k.root k.other (other_half k.half)) f.none f
  exchanged-follows false w x f = moved-follows b k m b.number b.rooted_at None b.half b.first_used b.second_used k.root k.other k.first k.second k.half w x f.along f.none f

  pub exchanged-file : (t : Bool) → b.trying_at ≡ None → IsFile b k m → IsFile (exchanged_at t) (turned_with t) m
  exchanged-file true quiet is = record {
    agree = record {
      shape = is.agree.shape;
      number = is.agree.number;
      root = is.agree.root;
      tried = λ w on. sym quiet ∙ is.agree.tried w on;
      half = ap other_half is.agree.half ∙ sym (idle-half-other b is.agree.two);
      two = idle-half-two b;
      first = is.agree.first;
      second = is.agree.second;
    };
    hold = moved-hold b k m b.number b.rooted_at None (idle_half b) b.first_used b.second_used k.root k.other k.first k.second (other_half k.half) is.hold;
    shut = is.shut;
    each = λ w may. let f = is.each w may in record { lineage = f.lineage; along = exchanged-follows true w f.lineage f.along };
  }
  exchanged-file false quiet is = record {
    agree = record {
      shape = is.agree.shape;
      number = is.agree.number;
      root = is.agree.root;
      tried = λ w on. sym quiet ∙ is.agree.tried w on;
      half = is.agree.half;
      two = is.agree.two;
      first = is.agree.first;
      second = is.agree.second;
    };
    hold = moved-hold b k m b.number b.rooted_at None b.half b.first_used b.second_used k.root k.other k.first k.second k.half is.hold;
    shut = is.shut;
    each = λ w may. let f = is.each w may in record { lineage = f.lineage; along = exchanged-follows false w f.lineage f.along };
  }

  -- while the next root is tried
  tried-follows : (new w : WholeRoot) (x : Lineage K) → Follows b k m w x → Follows b (with_tried k (Some new)) m w x
  tried-follows new w x f = moved-follows b k m b.number b.rooted_at b.trying_at b.half b.first_used b.second_used k.root (LooseHeader (Some new)) k.first k.second k.half w x (leads_over k w m x f.along k.root (LooseHeader (Some new)) k.half) f.none f

  pub tried-file : (w : WholeRoot) → b.trying_at ≡ Some b.front → IsNextRoot b w → IsFile b k m → IsFile b (with_tried k (Some w)) m
  tried-file w trying next is = record {
    agree = record {
      shape = is.agree.shape;
      number = is.agree.number;
      root = is.agree.root;
      tried = λ v on. trying ∙ ap Some (sym next.front ∙ ap (λ (r : WholeRoot). r.fields.front) (one-value w v on));
      half = is.agree.half;
      two = is.agree.two;
      first = is.agree.first;
      second = is.agree.second;
    };
    hold = moved-hold b k m b.number b.rooted_at b.trying_at b.half b.first_used b.second_used k.root (LooseHeader (Some w)) k.first k.second k.half is.hold;
    shut = is.shut;
    each = λ v may. elim may [
      | inl e ↦ let f = is.each v (inl e) in record { lineage = f.lineage; along = tried-follows w v f.lineage f.along }
      | inr on ↦ record { lineage = lineage_at m; along = subst (λ (r : WholeRoot). Follows b (with_tried k (Some w)) m r (lineage_at m)) (one-value w v on) (tried-follows w w (lineage_at m) (new-follows b k m w is next)) }
    ];
  }

  -- once it stands
  pub rooted-follows : (new : WholeRoot) (x : Lineage K) → Follows b k m new x → Follows (rooted_books b) (with_root k new) m new x
  rooted-follows new x f = moved-follows b k m (b.number + 1) (unwrap_or b.trying_at b.rooted_at) None b.half b.first_used b.second_used new (LooseHeader None) k.first k.second k.half new x (leads_over k new m x f.along new (LooseHeader None) k.half) f.none f

  pub rooted-file : (w : WholeRoot) → b.trying_at ≡ Some b.front → IsNextRoot b w → IsFile b k m → IsFile (rooted_books b) (with_root k w) m
  rooted-file w trying next is = record {
    agree = record {
      shape = is.agree.shape;
      number = next.number;
      root = next.front ∙ ap (λ (o : Option ℕ). unwrap_or o b.rooted_at) (sym trying);
      tried = λ v on. absurd (some-not-none v (sym on));
      half = is.agree.half;
      two = is.agree.two;
      first = is.agree.first;
      second = is.agree.second;
    };
    hold = moved-hold b k m (b.number + 1) (unwrap_or b.trying_at b.rooted_at) None b.half b.first_used b.second_used w (LooseHeader None) k.first k.second k.half is.hold;
    shut = is.shut;
    each = λ v may. elim may [
      | inl e ↦ record { lineage = lineage_at m; along = subst (λ (r : WholeRoot). Follows (rooted_books b) (with_root k w) m r (lineage_at m)) (sym e) (rooted-follows w (lineage_at m) (new-follows b k m w is next)) }
      | inr on ↦ absurd (some-not-none v (sym on))
    ];
  }

  -- the other half, while its gates are cleared and once they are
  abbrev h : ℕ
  h = idle_half b

  loose-follows : (w : WholeRoot) (x : Lineage K) → w.fields.front ≡ m.place → w.fields.session ≡ b.session → Follows b k m w x → Follows b (with_loose k h) m w x
  loose-follows w x front mine f =
      moved-follows b k m b.number b.rooted_at b.trying_at b.half b.first_used b.second_used k.root k.other (first_by h (map loosened) k.first) (second_by h (map loosened) k.second) k.half w x
      (leads_loosened k h m w x (idle-half-two b) (all-behind k h m.place w (idle-half-two b) front (f.none mine)) f.along) (λ own. loose-none k h (idle-half-two b) w m.place (f.none own)) f

  pub loose-file : k.other ≡ LooseHeader None → k.root.fields.front ≡ b.front → k.root.fields.session ≡ b.session → IsFile b k m → IsFile b (with_loose k h) m
  loose-file loose front mine is = record {
    agree = record {
      shape = is.agree.shape;
      number = is.agree.number;
      root = is.agree.root;
      tried = is.agree.tried;
      half = is.agree.half;
      two = is.agree.two;
      first = loose-first h k.first ∙ is.agree.first;
      second = loose-second h k.second ∙ is.agree.second;
    };
    hold = moved-hold b k m b.number b.rooted_at b.trying_at b.half b.first_used b.second_used k.root k.other (first_by h (map loosened) k.first) (second_by h (map loosened) k.second) k.half is.hold;
    shut = is.shut;
    each = λ w may. let f = is.each w may in record {
      lineage = f.lineage;
      along = loose-follows w f.lineage (ap (λ (r : WholeRoot). r.fields.front) (only-root k w loose may) ∙ front ∙ sym is.hold.place) (ap (λ (r : WholeRoot). r.fields.session) (only-root k w loose may) ∙ mine) f.along;
    };
  }

  -- books of which the other half is clear, and a full one has given its role to it
  abbrev pub cleaned_at : Bool → Books
  cleaned_at t = record (books_used b h 0) { half = cond t h b.half }

  abbrev pub cleaned_with : Bool → Kept K
  cleaned_with t = cond t (with_turned (with_shut k h)) (with_shut k h)

  pub cleaned-form : cleaned_books b ≡ cleaned_at (used_of b b.half == b.shape.slots)
  cleaned-form = by (used_of b b.half == b.shape.slots)
    where
      by : (t : Bool) → cond t (record (with_used b h 0) { half = h }) (with_used b h 0) ≡ cleaned_at t
      by true = ap (λ (c : Books). record c { half = h }) (used-form b h 0)
      by false = used-form b h 0

  pub cleaned-follows : (t : Bool) (w : WholeRoot) (x : Lineage K) → w.fields.front ≡ m.place → Follows b k m w x → Follows (cleaned_at t) (cleaned_with t) m w x
  cleaned-follows true w x front f =
      moved-follows b k m b.number b.rooted_at b.trying_at h (first_by h (λ _. 0) b.first_used) (second_by h (λ _. 0) b.second_used) k.root k.other (first_by h none_used k.first) (second_by h none_used k.second) (other_half k.half) w x
      (leads_over (with_shut k h) w m x (leads_emptied k h m w x (idle-half-two b) front f.along) k.root k.other (other_half k.half)) (λ own. clear-none k h (idle-half-two b) w m.place (f.none own)) f
  cleaned-follows false w x front f =
      moved-follows b k m b.number b.rooted_at b.trying_at b.half (first_by h (λ _. 0) b.first_used) (second_by h (λ _. 0) b.second_used) k.root k.other (first_by h none_used k.first) (second_by h none_used k.second) k.half w x
      (leads_emptied k h m w x (idle-half-two b) front f.along) (λ own. clear-none k h (idle-half-two b) w m.place (f.none own)) f

  cleaned-at-file : (t : Bool) → k.other ≡ LooseHeader None → k.root.fields.front ≡ b.front → IsFile b k m → IsFile (cleaned_at t) (cleaned_with t) m
  cleaned-at-file true loose front is = record {
    agree = record {
      shape = is.agree.shape;
      number = is.agree.number;
      root = is.agree.root;
      tried = is.agree.tried;
      half = ap other_half is.agree.half ∙ sym (idle-half-other b is.agree.two);
      two = idle-half-two b;
      first = clear-first h b.first_used k.first is.agree.first;
      second = clear-second h b.second_used k.second is.agree.second;
    };
    hold = moved-hold b k m b.number b.rooted_at b.trying_at h (first_by h (λ _. 0) b.first_used) (second_by h (λ _. 0) b.second_used) k.root k.other (first_by h none_used k.first) (second_by h none_used k.second) (other_half k.half) is.hold;
    shut = is.shut;
    each = λ w may. let f = is.each w may in record {
      lineage = f.lineage;
      along = cleaned-follows true w f.lineage (ap (λ (r : WholeRoot). r.fields.front) (only-root k w loose may) ∙ front ∙ sym is.hold.place) f.along;
    };
  }
  cleaned-at-file false loose front is = record {
    agree = record {
      shape = is.agree.shape;
      number = is.agree.number;
      root = is.agree.root;
      tried = is.agree.tried;
      half = is.agree.half;
      two = is.agree.two;
      first = clear-first h b.first_used k.first is.agree.first;
      second = clear-second h b.second_used k.second is.agree.second;
    };
    hold = moved-hold b k m b.number b.rooted_at b.trying_at b.half (first_by h (λ _. 0) b.first_used) (second_by h (λ _. 0) b.second_used) k.root k.other (first_by h none_used k.first) (second_by h none_used k.second) k.half is.hold;
    shut = is.shut;
    each = λ w may. let f = is.each w may in record {
      lineage = f.lineage;
      along = cleaned-follows false w f.lineage (ap (λ (r : WholeRoot). r.fields.front) (only-root k w loose may) ∙ front ∙ sym is.hold.place) f.along;
    };
  }

  pub cleaned-file : k.other ≡ LooseHeader None → k.root.fields.front ≡ b.front → IsFile b k m → IsFile (cleaned_books b) (cleaned_kept b k) m
  cleaned-file loose front is = subst (λ (c : Books). IsFile c (cleaned_kept b k) m) (sym cleaned-form) (cleaned-at-file (used_of b b.half == b.shape.slots) loose front is)
