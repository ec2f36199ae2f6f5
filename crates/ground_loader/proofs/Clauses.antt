-- Clauses by their names: a proof of several facts, as the parts of a contract.

pub answer-kept-came : {A B C : Type 0} → A × (B × C) → record { answer : A; kept : B; came : C }
answer-kept-came p = record { answer = p.0; kept = p.1.0; came = p.1.1 }

pub became-onward : {A B : Type 0} → A × B → record { became : A; onward : B }
became-onward p = record { became = p.0; onward = p.1 }

pub header_taken-onward : {A B : Type 0} → A × B → record { header_taken : A; onward : B }
header_taken-onward p = record { header_taken = p.0; onward = p.1 }

pub result_value-store_after : {A B : Type 0} → A × B → record { result_value : A; store_after : B }
result_value-store_after p = record { result_value = p.0; store_after = p.1 }

pub tail_taken-onward : {A B : Type 0} → A × B → record { tail_taken : A; onward : B }
tail_taken-onward p = record { tail_taken = p.0; onward = p.1 }

pub value-row_after : {A B : Type 0} → A × B → record { value : A; row_after : B }
value-row_after p = record { value = p.0; row_after = p.1 }
