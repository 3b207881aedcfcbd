mod NoiseLaws
