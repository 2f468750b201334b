mod PassedOn
