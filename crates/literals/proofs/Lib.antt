mod WithLaws
