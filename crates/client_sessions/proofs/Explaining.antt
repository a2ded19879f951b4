-- One history explains a session of one client.
use Rattle.std.proofs.Common.{◌≡◌, ◌≤◌, ◌⊎◌, ◌+◌, ℕ, List, map, length, All, Contains, sym, ap, subst, ◌∙◌}
use Rattle.grid_types.specs.Lists.{zip_with}
use Rattle.grid_types.specs.declared.request.Line.{Line}
use Rattle.grid_types.specs.declared.request.Reply.{Reply}
use Rattle.grid_types.specs.declared.sizes.TheConstants.{MOST_CLIENTS}
use Rattle.grid_model.specs.Answers.{IsAnswer, IsRefusal}
use Rattle.grid_model.specs.Histories.{History, state_at}
use Rattle.grid_model.specs.Sessions.{Exchange, Rises, by_place, exchange, exchanges, exchanges_of, lines_by, told_history, updates_made}
use Rattle.grid_model.specs.Tables.{IsTableOf}
use Rattle.grid_model.specs.Text.{Group}
use Rattle.client_sessions.specs.Laws.{IsExplained, RunsAreExplained}
use Rattle.client_sessions.specs.Points.{Point}
use Rattle.client_sessions.specs.Runs.{group_of_one}
use Rattle.client_sessions.proofs.Joining.{each-replied}
use Rattle.client_sessions.proofs.Making.{LeadsTo, history_from, session-leads}
use Rattle.client_sessions.proofs.Placing.{in-order, numbers-from-to}
use Rattle.client_sessions.proofs.Speaking.{its-clients, its-exchanges, its-exchanges-of, its-lines, of-its-group}

module _ {K : ℕ} (p q : Point K) (client : ℕ) (lines : List (Line K)) (replies : List (Reply K))
    (low : 1 ≤ client) (high : client ≤ MOST_CLIENTS) (base : IsTableOf K p.at.table) (own : All (λ l. l.client ≡ client) lines)
    (replied : length replies ≡ length lines) (g : LeadsTo p.at q.at (zip_with exchange lines replies)) where
  abbrev told : List (Exchange K)
  told = exchanges lines (group_of_one client replies)

  abbrev history : History K
  history = told_history p.at.place p.at.table told

  told-is : told ≡ zip_with exchange lines replies
  told-is = its-exchanges client lines replies replied own

  made-is : updates_made told ≡ g.ups
  made-is = ap updates_made told-is ∙ g.made

  ordered : by_place (updates_made told) ≡ g.ups
  ordered = ap by_place made-is ∙ in-order (p.at.place + 1) g.ups g.follow

  history-is : history ≡ history_from p.at g.ups
  unfolding told_history
  history-is = ap (history_from p.at) ordered

  explained : IsExplained p q client lines replies
  explained = record {
    explains = record {
      base_is = base;
      clients = its-clients client lines replies replied low high own;
      replies = λ i. of-its-group client (λ (x : Group K). length x.replies ≡ length (lines_by x.client lines)) replies i (replied ∙ ap (λ ls. length ls) (sym (its-lines client lines own)));
      places = ap (map (λ e. e.0)) ordered ∙ numbers-from-to p.at.place q.at.place g.ups g.follow g.many;
      once = ap (λ es. p.at.place + length es) made-is ∙ g.many;
      rising = λ i. of-its-group client (λ (x : Group K). Rises (exchanges_of lines x)) replies i (subst Rises (sym (its-exchanges-of client lines replies own)) g.rises);
      answers = λ x c. subst (λ h. IsAnswer h x.client x.request x.reply ⊎ IsRefusal x.reply) (sym history-is) (g.answers x (subst (λ xs. Contains xs x) told-is c));
    };
    table = ap (λ h. state_at h q.at.place) history-is ∙ g.table;
  }

-- the law of explanation
pub runs-are-explained : {K : ℕ} → RunsAreExplained K
runs-are-explained shape p q client lines replies low high base own runs =
    explained p q client lines replies low high base own (each-replied shape p q lines replies runs) (session-leads shape p q lines replies runs)
